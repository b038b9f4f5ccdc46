use Rattle.row_layout.proofs.Own.{rows_law}
use Rattle.row_layout.proofs.laws.held_rows_are_rows.Goals as goal

pub returns : goal.returns
returns c = rows_law c.has_one_chain.ensures c.spellings_are_unique.ensures.spells
