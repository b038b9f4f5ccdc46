use Rattle.std.proofs.Common.{◌≡◌, ◌≤◌, ◌*◌, take, length}
use Rattle.row_text.specs.Values.{escaped_text}
use Rattle.row_text.proofs.write.escaped.write_rest.Given as goal

abbrev pub invariant-loop-i : goal.invariant-loop-i
invariant-loop-i l =
    record {
      size : length l.room ≡ length l.fn.room;
      few : l.n ≤ 2 * l.i;
      done : take l.n l.room ≡ escaped_text (take l.i l.text);
    }
