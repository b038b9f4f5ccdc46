use Rattle.std.proofs.Common.{◌≡◌, ◌*◌, ◌++◌, take, drop, length}
use Rattle.row_text.specs.calls.Bytes.{halves}
use Rattle.row_text.proofs.write.bytes.write_halves.Given as goal

abbrev pub invariant-loop-i : goal.invariant-loop-i
invariant-loop-i l =
    record {
      size : length l.room ≡ 2 * length l.bytes;
      done : take (2 * l.i) l.room ++ halves (drop l.i l.bytes) ≡ halves l.bytes;
    }
