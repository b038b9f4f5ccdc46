use Rattle.std.proofs.Common.{◌≡◌, ◌≤◌, ◌*◌, ◌-◌, take, length}
use Rattle.row_text.specs.Values.{escaped_text}
use Rattle.row_text.proofs.write.escaped.write_groups.Given as goal

abbrev pub invariant-loop-done : goal.invariant-loop-done
invariant-loop-done l =
    record {
      read : l.done.read ≤ length l.text;
      few : l.done.written ≤ 2 * l.done.read;
      text : take l.done.written l.room ≡ escaped_text (take l.done.read l.text);
    }

abbrev pub decreases-loop-done : goal.decreases-loop-done
decreases-loop-done l = length l.text - l.done.read
