-- A row as a clustered record, and which of its columns go off the page.
use Rattle.std.specs.Prelude.{ℕ, zero, suc, ◌+◌, max, Bool, true, false, ◌&&◌, not, ◌==◌, nat_le, nat_lt}
use Rattle.std.specs.Prelude.{if◌then◌else◌, List, [], ◌∷◌, ◌++◌, length, map, take, drop, replicate, fold}
use Rattle.std.specs.Prelude.{slice_index_or, Option, Some, None}
use Rattle.std.specs.List.{position_or_len, range_with_len}
use Rattle.page_source.specs.Pages.{be_bytes}
use Rattle.column_values.specs.declared.kind.ColumnType.{ColumnType}
use Rattle.column_values.specs.declared.value.Value.{Value}
use Rattle.column_values.specs.declared.value.Value.TheVariants.{Null}
use Rattle.column_values.specs.declared.field.Field.{Field}
use Rattle.column_values.specs.Types.{field_at}
use Rattle.column_values.specs.Spell.{spelling_of}
use Rattle.schema_text.specs.declared.table.Format.{Format}
use Rattle.schema_text.specs.declared.table.Format.TheVariants.{Compact, Dynamic}
use Rattle.schema_text.specs.TableDef.{TableDef, column_at}
use Rattle.schema_text.specs.IndexFields.{leaf_fields, clustered_positions, other_positions}
use Rattle.compact_record.specs.declared.parts.Part.{Part}
use Rattle.compact_record.specs.declared.parts.Part.TheVariants as parts
use Rattle.compact_record.specs.Writing.{size_of_record}
use Rattle.offpage_chain.specs.declared.reference.Reference.{Reference}
use Rattle.offpage_chain.specs.Reference.{reference_bytes}

-- a field of a row: null, or its bytes, which may go off the page
pub record Stored : Type 0 where
  pub null : Bool
  pub off : Bool
  pub bytes : List ℕ

-- field i of a row; past the end a null
abbrev pub stored_at : List Stored → ℕ → Stored
stored_at row i = slice_index_or row i (record { null = true; off = false; bytes = [] })

-- bytes that stay on the page
abbrev pub kept : List ℕ → Stored
kept bytes = record { null = false; off = false; bytes = bytes }

abbrev pub is_null_value : Value → Bool
is_null_value Null = true
is_null_value value = false

-- a value, and that of a column of a row, all on the page
abbrev pub stored_value : ColumnType → Value → Stored
stored_value kind value = record { null = is_null_value value; off = false; bytes = spelling_of kind value }

abbrev pub stored_column : TableDef → List Value → ℕ → Stored
stored_column table row c = stored_value (column_at table c).kind (slice_index_or row c Null)

-- the hidden id of row i, counted from 0
abbrev pub row_id : ℕ → Stored
row_id i = kept (be_bytes 6 (i + 1))

-- the key of row i, and all its fields: key, transaction id, roll pointer, and the other columns
abbrev pub stored_key : TableDef → ℕ → List Value → List Stored
stored_key table i row =
    if length (clustered_positions table) == 0 then row_id i ∷ []
    else map (stored_column table row) (clustered_positions table)

unfoldable pub stored_row : TableDef → ℕ → List Value → List Stored
stored_row table i row =
    stored_key table i row ++ kept (replicate 6 0) ∷ kept (replicate 7 0)
    ∷ map (stored_column table row) (other_positions table)

-- how many bytes of a value stay where it goes off the page
abbrev pub kept_prefix : Format → ℕ
kept_prefix Compact = 768
kept_prefix Dynamic = 0

-- a column may go where it has more bytes than this
abbrev pub going_over : Format → ℕ
going_over Compact = 788
going_over Dynamic = 40

-- the bytes of a field that go off the page
abbrev pub off_bytes : Format → Stored → List ℕ
off_bytes format field = drop (kept_prefix format) field.bytes

-- the reference to the page where the bytes of a field that go off the page begin
abbrev pub reference_to : Format → ℕ → Stored → Reference
reference_to format n field = record {
  space = 1;
  page = n;
  offset = 38;
  length = length (off_bytes format field);
}

-- what stays on the page of a field whose other bytes go off it
abbrev pub off_local : Format → ℕ → Stored → List ℕ
off_local format n field = take (kept_prefix format) field.bytes ++ reference_bytes (reference_to format n field)

-- a field as a part of the record, with the page where its off-page bytes begin
abbrev pub part_of_field : Format → ℕ → Stored → Part
part_of_field format n field =
    if field.null then parts.Null
    else (if field.off then parts.Bytes (off_local format n field) true else parts.Bytes field.bytes false)

-- the parts of a row, where the off-page bytes of field i begin on page `first i`
unfoldable pub parts_of_row : Format → (ℕ → ℕ) → List Stored → List Part
parts_of_row format first row =
    map (λ i. part_of_field format (first i) (stored_at row i)) (range_with_len 0 (length row))

-- how many bytes the record of a row has, whatever pages its values go on in; with so many or more it is too long
abbrev pub size_of_row : TableDef → List Stored → ℕ
size_of_row table row = size_of_record (leaf_fields table 0) (parts_of_row table.format (λ i. 0) row)

abbrev pub is_too_long : TableDef → List Stored → Bool
is_too_long table row = nat_le 8126 (size_of_row table row)

-- a field may go off the page: it may leave, stands there with a value, and has enough bytes
abbrev pub may_go : Format → Field → Stored → Bool
may_go format field stored =
    field.may_leave && not stored.null && not stored.off && nat_lt (going_over format) (length stored.bytes)

-- how long a field is that may go, else 0
abbrev pub going_length : Format → Field → Stored → ℕ
going_length format field stored = if may_go format field stored then length stored.bytes else 0

unfoldable pub going_lengths : TableDef → List Stored → List ℕ
going_lengths table row =
    map (λ i. going_length table.format (field_at (leaf_fields table 0) i) (stored_at row i))
    (range_with_len 0 (length row))

abbrev pub greatest : List ℕ → ℕ
greatest lengths = fold max 0 lengths

-- field i goes off the page
abbrev pub with_off : ℕ → List Stored → List Stored
with_off i [] = []
with_off zero (field ∷ row) = record field { off = true } ∷ row
with_off (suc i) (field ∷ row) = field ∷ with_off i row

-- a row of which the longest field that may go off the page goes, the first of equals
unfoldable pub longest_off : TableDef → List Stored → List Stored
longest_off table row =
    with_off (position_or_len (λ n. n == greatest (going_lengths table row)) (going_lengths table row)) row

-- while the record is too long one more field goes, none where no field may
abbrev pub fitted : TableDef → ℕ → List Stored → Option (List Stored)
fitted table zero row = if is_too_long table row then None else Some row
fitted table (suc most) row =
    if is_too_long table row
    then (if greatest (going_lengths table row) == 0 then None else fitted table most (longest_off table row))
    else Some row

-- row i as it is stored, none where it is too big
unfoldable pub fitted_row : TableDef → ℕ → List Value → Option (List Stored)
fitted_row table i row = fitted table (length (stored_row table i row)) (stored_row table i row)
