use Rattle.tree_layout.proofs.Pushing.{goes_on_law}
use Rattle.tree_layout.proofs.laws.division_goes_on.Goals as goal

pub returns : goal.returns
returns c = goes_on_law
