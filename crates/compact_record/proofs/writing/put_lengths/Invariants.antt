use Rattle.std.proofs.Common.{◌≡◌, ◌+◌, ◌-◌, length, reverse}
use Rattle.page_source.specs.Pages.{with_bytes}
use Rattle.compact_record.proofs.WriteSteps.{lengths_from}
use Rattle.compact_record.proofs.writing.put_lengths.Given as goal

abbrev pub invariant-loop-k : goal.invariant-loop-k
invariant-loop-k l =
    record {
      written : l.page ≡ with_bytes l.fn.page l.at (reverse (lengths_from l.fields l.parts (l.count - l.k)));
      ends : l.end ≡ l.at + length (lengths_from l.fields l.parts (l.count - l.k));
    }
