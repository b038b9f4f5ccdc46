use Rattle.row_layout.proofs.Differ.{differ_law}
use Rattle.row_layout.proofs.laws.entries_differ.Goals as goal

pub returns : goal.returns
returns c = differ_law c.spellings_are_unique.ensures.spells
