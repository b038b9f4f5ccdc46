use Rattle.std.proofs.Common.{◌≡◌, ◌≤◌, length}
use Rattle.compact_record.proofs.WriteSteps.{bits_before, byte_of}
use Rattle.compact_record.proofs.writing.null_byte.Given as goal

abbrev pub invariant-loop-i : goal.invariant-loop-i
invariant-loop-i l =
    record {
      counted : l.nulls ≡ length (bits_before l.fields l.parts l.i);
      value : l.byte ≡ byte_of (bits_before l.fields l.parts l.i) l.j;
      few : l.nulls ≤ l.i;
    }
