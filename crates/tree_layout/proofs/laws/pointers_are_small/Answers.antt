use Rattle.tree_layout.proofs.PointerSizes.{small_law}
use Rattle.tree_layout.proofs.laws.pointers_are_small.Goals as goal

pub returns : goal.returns
returns c = small_law
