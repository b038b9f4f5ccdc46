use Rattle.tree_layout.proofs.Together.{apart_law}
use Rattle.tree_layout.proofs.laws.built_trees_are_apart.Goals as goal

pub returns : goal.returns
returns c = apart_law c.built_trees_are_whole.ensures c.levels_have_the_pages.ensures
