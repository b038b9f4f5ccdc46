use Rattle.tree_walk.specs.Index.{root_level}
use Rattle.tree_walk.proofs.Descents.{reached_occurs}
use Rattle.tree_walk.proofs.laws.levels_have_the_pages.Goals as goal

pub returns : goal.returns
returns c = λ index n. reached_occurs n index (root_level index)
