use Rattle.tree_layout.proofs.FullPages.{trees_law}
use Rattle.tree_layout.proofs.laws.trees_are_divided.Goals as goal

pub returns : goal.returns
returns c = trees_law c.levels_stand.ensures c.division_gives_levels.ensures
