use Rattle.row_layout.proofs.AlikeEntries.{alike_law}
use Rattle.row_layout.proofs.laws.entries_are_alike.Goals as goal

pub returns : goal.returns
returns c = alike_law
