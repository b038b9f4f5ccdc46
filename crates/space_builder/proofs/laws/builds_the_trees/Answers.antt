use Rattle.space_builder.proofs.layout.Trees.{trees_held}
use Rattle.space_builder.proofs.laws.builds_the_trees.Goals as goal

pub returns : goal.returns
returns c table rows can = (trees_held c.laws_below.ensures table rows can).trees
