use Rattle.index_page.proofs.KeyOrder.{rise_throughout}
use Rattle.index_page.proofs.laws.keys_rise_throughout.Goals as goal

pub returns : goal.returns
returns c = rise_throughout
