use Rattle.tree_layout.proofs.Whole.{built_tree}
use Rattle.tree_layout.proofs.laws.built_trees_are_whole.Goals as goal

pub returns : goal.returns
returns c =
    built_tree c.checks_are_an_index_page.ensures c.checks_are_wholeness.ensures c.rows_by_leaves.ensures
