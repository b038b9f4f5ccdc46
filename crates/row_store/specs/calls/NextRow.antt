-- The row of a line, behind the rows of the lines before it.
use Rattle.std.specs.Prelude.{◌≡◌, ◌≢◌, ℕ, ◌-◌, ◌<◌, ⊤, List, [], ◌∷◌, ◌++◌, length, map, take}
use Rattle.std.specs.Prelude.{slice_index_or, None, IsSome, Result, Ok, Err}
use Rattle.column_values.specs.declared.value.Value.{Value}
use Rattle.column_values.specs.Types.{Fields}
use Rattle.column_values.specs.Order.{Key, IsBelow}
use Rattle.compact_record.specs.Reading.{key_kinds}
use Rattle.schema_text.specs.TableDef.{TableDef}
use Rattle.schema_text.specs.Grammar.{IsTable}
use Rattle.schema_text.specs.IndexFields.{leaf_fields, clustered_positions, other_positions}
use Rattle.row_text.specs.Line.{IsLineOf}
use Rattle.row_layout.specs.StoredRow.{Stored, fitted_row}
use Rattle.row_layout.specs.HoldsValues.{stored_in}
use Rattle.row_store.specs.declared.stop.RowsWhy.{RowsWhy}
use Rattle.row_store.specs.declared.stop.RowsWhy.TheVariants.{Line, Order, Big}
use Rattle.row_store.specs.declared.stop.RowStop.{RowStop}
use Rattle.row_store.specs.declared.stop.RowStop.TheVariants as stops
use Rattle.row_store.specs.declared.row_shape.RowShape.{RowShape}
use Rattle.row_store.specs.StoredRows.{Rows, stored_rows, HaveFittedRows, value_of}
use Rattle.row_store.specs.BadLine.{IsKeyBelow}

-- the fields of a table's clustered records, and the columns behind their key
pub record IsShapeOf (table : TableDef) (shape : RowShape) : Type 0 where
  pub is_table : IsTable table
  pub fields : shape.fields ≡ leaf_fields table 0
  pub others : shape.others.items ≡ other_positions table

-- the first fields of a row as a key
abbrev pub first_cells : ℕ → List Stored → Key
first_cells count row = map value_of (take count row)

-- the stored rows have all fields
abbrev pub AreWide : Fields → List (List Stored) → Type 0
AreWide fields stored = (r : ℕ) → r < length stored → length (stored_in stored r) ≡ length fields.fields

-- the key of a stored row is greater than that of the last one
abbrev pub IsAfter : TableDef → List (List Stored) → List Stored → Type 0
IsAfter table stored row =
    length (clustered_positions table) ≢ 0 → 0 < length stored
    → IsBelow (key_kinds (leaf_fields table 0))
    (first_cells (leaf_fields table 0).keys (stored_in stored (length stored - 1)))
    (first_cells (leaf_fields table 0).keys row)

-- these rows are stored
pub record HoldsRows (table : TableDef) (rows : Rows) (stored : List (List Stored)) : Type 0 where
  pub same : stored ≡ stored_rows table rows
  pub fitted : HaveFittedRows table rows

-- the key of a row is greater than that of the last of these rows
abbrev pub RisesBehind : TableDef → Rows → List Value → Type 0
RisesBehind table rows row =
    length (clustered_positions table) ≢ 0 → 0 < length rows
    → IsKeyBelow table (slice_index_or rows (length rows - 1) []) row

-- the row has the line, is greater than those before it, and fits its record
pub record IsNextRow (table : TableDef) (rows : Rows) (line : List ℕ) (row : List Value) : Type 0 where
  pub has_line : IsLineOf table row line
  pub rises : RisesBehind table rows row
  pub fits : IsSome (fitted_row table (length rows) row)

-- the line is refused behind these rows
abbrev pub RefusesNext : TableDef → Rows → List ℕ → RowsWhy → Type 0
RefusesNext table rows line Line = (row : List Value) → ¬ (IsLineOf table row line)
RefusesNext table rows line Order = (row : List Value) × IsLineOf table row line × (¬ (RisesBehind table rows row))
RefusesNext table rows line Big =
    (row : List Value) × IsLineOf table row line × RisesBehind table rows row
    × (fitted_row table (length rows) row ≡ None)
RefusesNext table rows line why = ⊥

-- the row of a line was added, or the line is refused
abbrev pub AddsRow : TableDef → Rows → List ℕ → List (List Stored) → Result (Unit {0}) RowStop → Type 0
AddsRow table rows line stored (Ok done) =
    (row : List Value) × IsNextRow table rows line row × (stored ≡ stored_rows table (rows ++ row ∷ []))
AddsRow table rows line stored (Err (stops.Refused why)) = RefusesNext table rows line why
AddsRow table rows line stored (Err stops.Memory) = ⊤
