use Rattle.row_text.proofs.ReadDigits.{AreDigits}
use Rattle.row_text.proofs.read.decimals.number_of.Given as goal

abbrev pub invariant-loop-byte : goal.invariant-loop-byte
invariant-loop-byte l = AreDigits l.digits l.byte-index l.number
