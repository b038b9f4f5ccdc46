use Rattle.tree_layout.proofs.Held.{places_law}
use Rattle.tree_layout.proofs.laws.trees_take_places.Goals as goal

pub returns : goal.returns
returns c =
    places_law c.built_trees_are_whole.ensures c.levels_have_the_pages.ensures c.division_gives_levels.ensures
    c.counts_need_no_numbers.ensures c.numbers_are_different.ensures
