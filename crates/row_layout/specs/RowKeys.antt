-- The clustered keys of rows, and rows in their order.
use Rattle.std.specs.Prelude.{◌≢◌, ℕ, ◌+◌, ◌<◌, List, [], length, map, slice_index_or}
use Rattle.column_values.specs.declared.value.Value.{Value}
use Rattle.column_values.specs.Order.{Key, IsBelow}
use Rattle.compact_record.specs.Reading.{key_kinds}
use Rattle.compact_record.specs.Writing.{part_cell}
use Rattle.schema_text.specs.TableDef.{TableDef}
use Rattle.schema_text.specs.IndexFields.{leaf_fields, clustered_positions}
use Rattle.row_text.specs.Line.{IsTableRow}
use Rattle.row_layout.specs.StoredRow.{Stored, stored_column, stored_key, part_of_field}

-- rows of the table
abbrev pub AreTableRows : TableDef → List (List Value) → Type 0
AreTableRows table rows = (r : ℕ) → r < length rows → IsTableRow table (slice_index_or rows r [])

-- the clustered key of row i, by its values
abbrev pub key_of_row : TableDef → ℕ → List Value → Key
key_of_row table i row =
    map (λ (field : Stored). part_cell (part_of_field table.format 0 field)) (stored_key table i row)

-- the key of the columns of a row
abbrev pub column_key : TableDef → List Value → Key
column_key table row =
    map (λ (field : Stored). part_cell (part_of_field table.format 0 field))
    (map (stored_column table row) (clustered_positions table))

-- the keys of rows rise from each to the next; hidden row ids do so by themselves
abbrev pub RowsRise : TableDef → List (List Value) → Type 0
RowsRise table rows =
    length (clustered_positions table) ≢ 0 → (r : ℕ) → r + 1 < length rows
    → IsBelow (key_kinds (leaf_fields table 0)) (column_key table (slice_index_or rows r []))
    (column_key table (slice_index_or rows (r + 1) []))
