use Rattle.tree_layout.proofs.FullPages.{divides_law, one_law}
use Rattle.tree_layout.proofs.laws.pages_are_full.Goals as goal

pub returns : goal.returns
returns c = record { divides = divides_law; one = one_law }
