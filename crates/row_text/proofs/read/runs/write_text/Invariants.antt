use Rattle.std.proofs.Common.{◌≡◌, ◌-◌, length}
use Rattle.row_text.specs.calls.Texts.{IsWritten}
use Rattle.row_text.proofs.read.runs.write_text.Given as goal

abbrev pub invariant-loop-n : goal.invariant-loop-n
invariant-loop-n l = record {
  written : IsWritten l.text l.room l.n l.at;
  same : length l.room ≡ length l.fn.room;
}

abbrev pub decreases-loop-n : goal.decreases-loop-n
decreases-loop-n l = length l.room - l.n
