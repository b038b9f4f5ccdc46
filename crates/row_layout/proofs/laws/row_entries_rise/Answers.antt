use Rattle.row_layout.proofs.Keys.{rise_law}
use Rattle.row_layout.proofs.laws.row_entries_rise.Goals as goal

pub returns : goal.returns
returns c = rise_law c.spellings_are_unique.ensures.spells
