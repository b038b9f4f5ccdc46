use Rattle.std.proofs.Common.{◌-◌, ◌≤◌, length, take}
use Rattle.column_values.specs.Utf8View.{state_of, RoomFor, ReadsOn}
use Rattle.column_values.proofs.utf8.Progress.with_blocks.Given as goal

abbrev pub invariant-loop-at : goal.invariant-loop-at
invariant-loop-at l = record {
  within : l.at ≤ length l.bytes;
  reads : ReadsOn (state_of l.fn.self) (state_of l.progress) (take l.at l.bytes);
  room : RoomFor (state_of l.progress) (length l.bytes - l.at);
}

abbrev pub decreases-loop-at : goal.decreases-loop-at
decreases-loop-at l = length l.bytes - l.at
