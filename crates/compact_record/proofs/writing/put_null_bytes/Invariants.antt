use Rattle.std.proofs.Common.{◌≡◌, ◌-◌, reverse}
use Rattle.page_source.specs.Pages.{with_bytes}
use Rattle.compact_record.proofs.WriteSteps.{nulls_from}
use Rattle.compact_record.proofs.writing.put_null_bytes.Given as goal

abbrev pub invariant-loop-k : goal.invariant-loop-k
invariant-loop-k l = l.page ≡ with_bytes l.fn.page l.at (reverse (nulls_from l.fields l.parts (l.count - l.k)))
