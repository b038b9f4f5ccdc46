use Rattle.std.proofs.Common.{◌≡◌, ◌++◌, map, take, drop}
use Rattle.row_text.specs.calls.Bytes.{half_digit}
use Rattle.row_text.proofs.write.bytes.write_digits.Given as goal

abbrev pub invariant-loop-i : goal.invariant-loop-i
invariant-loop-i l = l.room ≡ map half_digit (take l.i l.fn.room) ++ drop l.i l.fn.room
