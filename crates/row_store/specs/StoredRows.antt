-- The rows of a table as they are stored.
use Rattle.std.specs.Prelude.{ℕ, ◌<◌, if◌then◌else◌, List, [], length, map, slice_index_or, Option, Some, None}
use Rattle.std.specs.Prelude.{unwrap_or, IsSome}
use Rattle.std.specs.List.{range_with_len}
use Rattle.column_values.specs.declared.value.Value.{Value}
use Rattle.schema_text.specs.TableDef.{TableDef}
use Rattle.row_layout.specs.StoredRow.{Stored, fitted_row}

-- the rows of a table, each by its values
abbrev pub Rows : Type 0
Rows = List (List Value)

-- the rows as they are stored; a row that is too big is left empty
unfoldable pub stored_rows : TableDef → Rows → List (List Stored)
stored_rows table rows =
    map (λ r. unwrap_or (fitted_row table r (slice_index_or rows r [])) []) (range_with_len 0 (length rows))

-- each row has a record that fits
abbrev pub HaveFittedRows : TableDef → Rows → Type 0
HaveFittedRows table rows = (r : ℕ) → r < length rows → IsSome (fitted_row table r (slice_index_or rows r []))

-- the value of a field, wherever its bytes stand
abbrev pub value_of : Stored → Option (List ℕ)
value_of field = if field.null then None else Some field.bytes
