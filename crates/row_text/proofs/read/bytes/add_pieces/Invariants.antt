use Rattle.std.proofs.Common.{length}
use Rattle.row_text.specs.calls.Bytes.{TakesBytes}
use Rattle.row_text.proofs.read.bytes.add_pieces.Given as goal

abbrev pub invariant-loop-rest : goal.invariant-loop-rest
invariant-loop-rest l = TakesBytes l.fn.list l.list l.fn.text l.rest

abbrev pub decreases-loop-rest : goal.decreases-loop-rest
decreases-loop-rest l = length l.rest
