use Rattle.std.proofs.Common.{◌≡◌, ◌*◌, ◌<◌, length, take}
use Rattle.row_text.proofs.LeadingBytes.{AreHexed}
use Rattle.row_text.proofs.read.bytes.write_bytes.Given as goal

abbrev pub invariant-loop-i : goal.invariant-loop-i
invariant-loop-i l =
    record {
      size : length l.digits ≡ 2 * length l.room;
      done : l.greatest < 16 → AreHexed l.digits l.i (take l.i l.room);
    }
