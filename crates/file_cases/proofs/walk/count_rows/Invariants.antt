use Rattle.std.proofs.Common.{◌≡◌, false}
use Rattle.file_cases.proofs.walk.count_rows.Given as goal

abbrev pub invariant-loop-count : goal.invariant-loop-count
invariant-loop-count g l = l.rows.ended ≡ false
