-- How many bytes the fields of a row take in its record, and which of them goes off the page next.
use Rattle.std.specs.Prelude.{◌≡◌, ◌≢◌, ℕ, ◌+◌, ◌<◌, min, ◌==◌, ◌||◌, ◌&&◌, not, nat_lt, if◌then◌else◌, List, length}
use Rattle.std.specs.Prelude.{sum_by, Option, MatchOption}
use Rattle.std.specs.List.{position_or_len, range_with_len}
use Rattle.column_values.specs.declared.field.Field.{Field}
use Rattle.column_values.specs.Types.{Fields, field_at, is_variable, is_big}
use Rattle.schema_text.specs.declared.table.Format.{Format}
use Rattle.schema_text.specs.TableDef.{TableDef}
use Rattle.row_layout.specs.StoredRow.{Stored, stored_at, kept_prefix, going_lengths, greatest}
use Rattle.row_store.specs.declared.marks.FieldSpot.{FieldSpot}
use Rattle.row_store.specs.calls.Stored.{spot_start, AreSpots}

-- the spots lie in order within the bytes, and the last one ends with them
pub record AreFilled (spots : List FieldSpot) (bytes : List ℕ) : Type 0 where
  pub are : AreSpots spots bytes
  pub full : spot_start spots (length spots) ≡ length bytes

-- how many bytes of a field stand in the record, and how many its length takes there
abbrev pub local_length : Format → Stored → ℕ
local_length format field =
    if field.null then 0
    else (if field.off then min (length field.bytes) (kept_prefix format) + 20 else length field.bytes)

abbrev pub length_length : Format → Field → Stored → ℕ
length_length format field stored =
    if stored.null || not (is_variable field.kind) then 0
    else (if stored.off || (is_big field.kind && nat_lt 127 (length stored.bytes)) then 2 else 1)

abbrev pub field_size : Format → Field → Stored → ℕ
field_size format field stored = length_length format field stored + local_length format stored

-- the sizes of the first so many fields
abbrev pub field_sizes : Format → Fields → List Stored → ℕ → ℕ
field_sizes format fields row count =
    sum_by (λ i. field_size format (field_at fields i) (stored_at row i)) (range_with_len 0 count)

-- the place of the longest field that may go, the first of equals
abbrev pub longest_place : TableDef → List Stored → ℕ
longest_place table row =
    position_or_len (λ n. n == greatest (going_lengths table row)) (going_lengths table row)

-- the longest field that may go goes next, none if none may
abbrev pub GoesNext : TableDef → List Stored → Option ℕ → Type 0
GoesNext table row place =
    MatchOption place (greatest (going_lengths table row) ≡ 0)
    (λ i. (greatest (going_lengths table row) ≢ 0) × (i ≡ longest_place table row) × (i < length row))
