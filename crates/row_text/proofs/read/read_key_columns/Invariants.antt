use Rattle.row_text.specs.KeyText.{key_columns}
use Rattle.row_text.proofs.Reading.{AreRead}
use Rattle.row_text.proofs.read.read_key_columns.Given as goal

abbrev pub invariant-loop-place : goal.invariant-loop-place
invariant-loop-place l = AreRead (key_columns l.fn.schema) l.text l.place-index l.row l.at
