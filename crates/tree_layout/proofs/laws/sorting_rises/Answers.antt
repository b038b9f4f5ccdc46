use Rattle.tree_layout.proofs.Sorting.{sorting_law}
use Rattle.tree_layout.proofs.laws.sorting_rises.Goals as goal

pub returns : goal.returns
returns c = sorting_law
