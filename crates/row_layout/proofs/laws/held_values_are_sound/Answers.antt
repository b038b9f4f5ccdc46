use Rattle.row_layout.proofs.Own.{values_law}
use Rattle.row_layout.proofs.laws.held_values_are_sound.Goals as goal

pub returns : goal.returns
returns c = values_law c.has_one_chain.ensures c.spellings_are_unique.ensures.spells
