use Rattle.std.proofs.Common.{◌≡◌, ◌*◌, ◌≤◌}
use Rattle.compact_record.proofs.ReadParts.{taken_before, values_before}
use Rattle.compact_record.proofs.writing.part_sizes.Given as goal

abbrev pub invariant-loop-i : goal.invariant-loop-i
invariant-loop-i l =
    record {
      lengths_so_far : l.lengths ≡ taken_before l.fields l.parts l.i;
      local_so_far : l.local ≡ values_before l.parts l.i;
      few : l.lengths ≤ 2 * l.i;
      short : l.local ≤ 34359738368 * l.i;
    }
