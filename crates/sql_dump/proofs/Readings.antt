-- What a reader knows of the record that it read.
use Rattle.std.proofs.Common.{◌≡◌, ℕ, List, length, All, Result, Ok, Err, OnOk, ap, ◌∙◌}
use Rattle.std.proofs.lemmas.List.FromFn.{length-map-range_with_len}
use Rattle.column_values.specs.Types.{Fields}
use Rattle.compact_record.specs.Keys.{LiesBelow}
use Rattle.compact_record.specs.Reading.{Reading, IsReading, place_of, places_of, field_count}
use Rattle.schema_text.specs.TableDef.{TableDef}
use Rattle.schema_text.specs.IndexFields.{leaf_fields}
use Rattle.sql_dump.specs.Cells.{HavePlaces}

-- each field of a leaf record that was read has its place
pub have_places : {A E : Type 0} (result : Result A E) (table : TableDef) (page : List ℕ) (origin : ℕ)
    (fields : Fields) (reading : Reading) → fields ≡ leaf_fields table 0
    → OnOk result (IsReading page origin fields reading) → OnOk result (All (LiesBelow 16384) reading.places)
    → OnOk result (HavePlaces table reading.places)
unfolding places_of
have_places (Ok a) table page origin fields reading fields_are read lie =
    record {
      all = ap length read.holds ∙ length-map-range_with_len (place_of page origin fields) 0 (field_count fields)
          ∙ ap (λ (f : Fields). length f.fields) fields_are;
      lie = lie;
    }
have_places (Err e) table page origin fields reading fields_are read lie = tt
