use Rattle.row_layout.proofs.Keys.{keys_law}
use Rattle.row_layout.proofs.laws.entries_have_keys.Goals as goal

pub returns : goal.returns
returns c = keys_law c.spellings_are_unique.ensures.spells
