use Rattle.std.proofs.Common.{sym}
use Rattle.tree_walk.proofs.Descents.{below_is}
use Rattle.tree_walk.proofs.laws.levels_are_of_the_descent.Goals as goal

pub returns : goal.returns
returns c = λ index depth. sym (below_is index depth)
