use Rattle.row_text.proofs.Reading.{AreRead}
use Rattle.row_text.proofs.read.read_columns.Given as goal

abbrev pub invariant-loop-column : goal.invariant-loop-column
invariant-loop-column l = AreRead l.columns l.text l.column-index l.row l.at
