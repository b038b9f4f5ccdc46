use Rattle.std.proofs.Common.{◌≡◌, ℕ, ◌*◌, ◌<◌, ◌≤◌, get_or}
use Rattle.compact_record.specs.declared.places.Place.{Place}
use Rattle.compact_record.specs.Reading.{FieldIsSpelled, lengths_before, local_before, nullable_before, place_of}
use Rattle.compact_record.proofs.places.read_places.Given as goal

abbrev pub invariant-loop-i : goal.invariant-loop-i
invariant-loop-i l =
    record {
      nulls : l.nulls ≡ nullable_before l.fields l.i;
      lengths : l.lengths ≡ lengths_before l.page l.origin l.fields l.i;
      local : l.local ≡ local_before l.page l.origin l.fields l.i;
      few : l.nulls ≤ l.i;
      short : l.lengths ≤ 2 * l.i;
      small : l.local ≤ 34359738368 * l.i;
      spelled : (k : ℕ) → k < l.i → FieldIsSpelled l.page l.origin l.fields k;
      places : (k : ℕ) (d : Place) → k < l.i → get_or l.places k d ≡ place_of l.page l.origin l.fields k;
    }
