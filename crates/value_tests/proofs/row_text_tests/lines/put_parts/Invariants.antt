use Rattle.std.proofs.Common.{◌≡◌, length}
use Rattle.value_tests.proofs.row_text_tests.lines.put_parts.Given as goal

abbrev pub invariant-loop-rest : goal.invariant-loop-rest
invariant-loop-rest l = l.writer.lacks ≡ length l.rest

abbrev pub decreases-loop-rest : goal.decreases-loop-rest
decreases-loop-rest l = length l.rest
