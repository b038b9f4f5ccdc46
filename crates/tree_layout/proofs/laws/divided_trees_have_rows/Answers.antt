use Rattle.tree_layout.proofs.DividedRows.{divided_rows}
use Rattle.tree_layout.proofs.laws.divided_trees_have_rows.Goals as goal

pub returns : goal.returns
returns c =
    divided_rows c.built_trees_are_whole.ensures c.built_trees_are_apart.ensures c.divided_trees_are_held.ensures
    c.trees_take_places.ensures
