use Rattle.tree_layout.proofs.Pushing.{stand_law}
use Rattle.tree_layout.proofs.laws.levels_stand.Goals as goal

pub returns : goal.returns
returns c = stand_law
