use Rattle.table_check.proofs.TreesLaw.{HasTreeLaws, tree_checks_are_trees}
use Rattle.table_check.proofs.laws.tree_checks_are_trees.Goals as goal

pub returns : goal.returns
returns c =
    let laws : HasTreeLaws = record {
      lists = c.lists_are_of_one_index.ensures;
      checks = c.checks_are_wholeness.ensures;
      levels = c.levels_have_the_pages.ensures;
    } in
    tree_checks_are_trees laws
