use Rattle.tree_layout.proofs.PointerSizes.{records_law}
use Rattle.tree_layout.proofs.laws.records_are_small.Goals as goal

pub returns : goal.returns
returns c = records_law
