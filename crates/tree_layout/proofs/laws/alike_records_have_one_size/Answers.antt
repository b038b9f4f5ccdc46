use Rattle.tree_layout.proofs.Alike.{size_same}
use Rattle.tree_layout.proofs.laws.alike_records_have_one_size.Goals as goal

pub returns : goal.returns
returns c = size_same
