use Rattle.std.proofs.Common.{◌≡◌, ℕ, ◌*◌, ◌<◌, ◌≤◌}
use Rattle.compact_record.specs.Reading.{lengths_before, nullable_before}
use Rattle.compact_record.specs.Whole.{FieldLiesWhole}
use Rattle.compact_record.proofs.whole.lies_whole.Given as goal

abbrev pub invariant-loop-i : goal.invariant-loop-i
invariant-loop-i l =
    record {
      nulls : l.nulls ≡ nullable_before l.fields l.i;
      lengths : l.lengths ≡ lengths_before l.page l.origin l.fields l.i;
      few : l.nulls ≤ l.i;
      short : l.lengths ≤ 2 * l.i;
      whole : (k : ℕ) → k < l.i → FieldLiesWhole l.page l.origin l.fields k;
    }
