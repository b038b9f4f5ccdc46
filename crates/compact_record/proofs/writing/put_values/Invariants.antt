use Rattle.std.proofs.Common.{◌≡◌, ◌+◌, flat_map, take}
use Rattle.page_source.specs.Pages.{with_bytes}
use Rattle.compact_record.specs.Writing.{local_bytes}
use Rattle.compact_record.proofs.ReadParts.{values_before}
use Rattle.compact_record.proofs.writing.put_values.Given as goal

abbrev pub invariant-loop-i : goal.invariant-loop-i
invariant-loop-i l =
    record {
      written : l.page ≡ with_bytes l.fn.page l.at (flat_map local_bytes (take l.i l.parts));
      ends : l.end ≡ l.at + values_before l.parts l.i;
    }
