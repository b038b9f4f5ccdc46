use Rattle.space_layout.proofs.HeadBytes.{are_head_pages}
use Rattle.space_layout.proofs.laws.head_pages_are_whole.Goals as goal

pub returns : goal.returns
returns c = are_head_pages c.laws_below.ensures.page
