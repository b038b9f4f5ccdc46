use Rattle.std.proofs.Common.{◌≡◌, ◌++◌, replicate}
use Rattle.column_values.proofs.texts.push_spaces.Given as goal

abbrev pub invariant-loop : goal.invariant-loop
invariant-loop l = l.list ≡ l.fn.list ++ replicate l.counter 32
