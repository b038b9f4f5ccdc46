use Rattle.tree_layout.proofs.Counting.{counts_cut}
use Rattle.tree_layout.proofs.laws.counts_are_cut.Goals as goal

pub returns : goal.returns
returns c = counts_cut
