use Rattle.row_layout.proofs.Own.{left_law}
use Rattle.row_layout.proofs.laws.nothing_is_left_over.Goals as goal

pub returns : goal.returns
returns c = left_law c.has_one_chain.ensures c.spellings_are_unique.ensures.spells c.levels_have_the_pages.ensures
