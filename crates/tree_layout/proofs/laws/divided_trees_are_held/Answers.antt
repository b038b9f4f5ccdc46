use Rattle.tree_layout.proofs.Held.{held_law}
use Rattle.tree_layout.proofs.laws.divided_trees_are_held.Goals as goal

pub returns : goal.returns
returns c = held_law c.division_gives_levels.ensures c.counts_need_no_numbers.ensures c.numbers_are_different.ensures
