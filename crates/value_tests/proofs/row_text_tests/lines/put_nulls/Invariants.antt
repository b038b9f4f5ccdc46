use Rattle.std.proofs.Common.{◌≡◌}
use Rattle.value_tests.proofs.row_text_tests.lines.put_nulls.Given as goal

abbrev pub invariant-loop : goal.invariant-loop
invariant-loop l = l.writer.came ≡ l.counter
