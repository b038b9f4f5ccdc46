use Rattle.tree_layout.proofs.Alike.{counts_law}
use Rattle.tree_layout.proofs.laws.counts_are_of_sizes.Goals as goal

pub returns : goal.returns
returns c = counts_law
