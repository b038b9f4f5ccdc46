use Rattle.tree_walk.proofs.Descents.{rows_law}
use Rattle.tree_walk.proofs.laws.rows_by_leaves.Goals as goal

pub returns : goal.returns
returns c = rows_law
