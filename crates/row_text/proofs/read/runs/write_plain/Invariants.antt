use Rattle.std.proofs.Common.{◌≡◌, ◌+◌, length}
use Rattle.row_text.specs.calls.Texts.{IsWritten}
use Rattle.row_text.proofs.read.runs.write_plain.Given as goal

abbrev pub invariant-loop-i : goal.invariant-loop-i
invariant-loop-i l = record {
  written : IsWritten l.text l.room (l.n + l.i) (l.at + l.i);
  same : length l.room ≡ length l.initial.room;
}
