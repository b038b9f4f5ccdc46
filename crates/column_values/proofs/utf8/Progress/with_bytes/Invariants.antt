use Rattle.std.proofs.Common.{◌-◌, length, take}
use Rattle.column_values.specs.Utf8View.{state_of, RoomFor, ReadsOn}
use Rattle.column_values.proofs.utf8.Progress.with_bytes.Given as goal

abbrev pub invariant-loop-byte : goal.invariant-loop-byte
invariant-loop-byte l = record {
  reads : ReadsOn (state_of l.fn.self) (state_of l.progress) (take l.byte-index l.bytes);
  room : RoomFor (state_of l.progress) (length l.bytes - l.byte-index);
}
