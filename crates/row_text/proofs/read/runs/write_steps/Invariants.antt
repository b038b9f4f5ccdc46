use Rattle.std.proofs.Common.{◌≡◌, ◌-◌, length}
use Rattle.row_text.specs.calls.Texts.{IsWritten}
use Rattle.row_text.proofs.read.runs.write_steps.Given as goal

abbrev pub invariant-loop-at : goal.invariant-loop-at
invariant-loop-at l = record {
  written : IsWritten l.text l.room l.n l.at;
  same : length l.room ≡ length l.fn.room;
}

abbrev pub decreases-loop-at : goal.decreases-loop-at
decreases-loop-at l = length l.text - l.at
