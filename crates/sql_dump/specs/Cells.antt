-- A row on its leaf and the columns of it: where they lie, and what is read there.
use Rattle.std.specs.Prelude.{◌≡◌, ℕ, ◌<◌, true, false, ◌≤◌, List, length, map, flat_map, slice_index_or}
use Rattle.std.specs.Prelude.{All, ◌⊎◌}
use Rattle.std.specs.List.{range_with_len}
use Rattle.page_source.specs.declared.rule.Fault.{Fault}
use Rattle.page_source.specs.declared.rule.Rule.TheVariants as rules
use Rattle.column_values.specs.declared.kind.ColumnType.{ColumnType}
use Rattle.column_values.specs.declared.field.FieldType.TheVariants.{Column}
use Rattle.column_values.specs.declared.value.Value.{Value}
use Rattle.column_values.specs.declared.value.Value.TheVariants.{Null}
use Rattle.column_values.specs.Types.{IsColumnType}
use Rattle.column_values.specs.Spell.{Spell, IsSpelling}
use Rattle.compact_record.specs.declared.places.Place.{Place}
use Rattle.compact_record.specs.Keys.{LiesBelow}
use Rattle.compact_record.specs.Reading.{places_of}
use Rattle.offpage_chain.specs.Reference.{reference_of}
use Rattle.schema_text.specs.TableDef.{TableDef, column_at}
use Rattle.schema_text.specs.IndexFields.{field_of_column, fields_of_columns, leaf_fields}
use Rattle.table_check.specs.Values.{bytes_at, pages_of_field}
use Rattle.sql_dump.specs.Long.{CanFollow, FitsLong, whole_bytes, stated_length}

-- a row: its table, its leaf, and where its fields lie there
pub record RowView : Type 0 where
  pub table : TableDef
  pub page : List ℕ
  pub places : List Place

-- a row with the number of its leaf
pub record RowOnLeaf : Type 0 where
  pub row : RowView
  pub leaf : ℕ

-- a column of a row: its type, the leaf, and where it lies there
pub record CellView : Type 0 where
  pub kind : ColumnType
  pub page : List ℕ
  pub place : Place

-- the row of the record at an origin of a leaf
abbrev pub row_on : TableDef → List ℕ → ℕ → RowView
row_on table page origin = record { table = table; page = page; places = places_of page origin (leaf_fields table 0) }

-- where a column lies, by the places of all fields
unfoldable pub place_in : TableDef → List Place → ℕ → Place
place_in table places c =
    slice_index_or places (field_of_column table c) (record { null = true; external = false; from = 0; until = 0 })

-- column c of a row
abbrev pub cell_of_column : RowView → ℕ → CellView
cell_of_column row c =
    record { kind = (column_at row.table c).kind; page = row.page; place = place_in row.table row.places c }

-- each field has its place on a page
pub record HavePlaces (table : TableDef) (places : List Place) : Type 0 where
  pub all : length places ≡ length (leaf_fields table 0).fields
  pub lie : All (LiesBelow 16384) places

-- column c of a row is field at[c], and each field has its place
pub record AreCells (table : TableDef) (at : List ℕ) (places : List Place) : Type 0 where
  pub fields : at ≡ fields_of_columns table
  pub few : length places ≤ 128
  pub placed : HavePlaces table places

-- a column of a known type, which lies on its page
pub record IsCell (cell : CellView) : Type 0 where
  pub known : IsColumnType cell.kind
  pub lies : LiesBelow 16384 cell.place

-- all bytes of a column stand on the leaf
abbrev pub IsNear : Place → Type 0
IsNear place = place.external ≡ false

-- the bytes of a column on the leaf
abbrev pub local_bytes : CellView → List ℕ
local_bytes cell = bytes_at cell.page cell.place

-- what is tested of a column before it is written: a local value is spelled, another one fits its type
pub record IsSound (cell : CellView) : Type 0 where
  pub local : cell.place.null ≡ false → cell.place.external ≡ false → IsSpelling cell.kind (local_bytes cell)
  pub long : cell.place.null ≡ false → cell.place.external ≡ true → FitsLong cell.kind (local_bytes cell)

-- a column of the row may not be written
pub record HasUnsound (row : RowView) : Type 0 where
  pub column : ℕ
  pub within : column < length row.table.columns
  pub unsound : ¬ (IsSound (cell_of_column row column))

-- what is named if a row isn't written: its leaf, if a column may not be written; or a page of a chain that a column
-- of it goes on in
abbrev pub BreaksRow : RowOnLeaf → Fault → Type 0
BreaksRow on fault =
    ((fault ≡ record { rule = rules.Value; page = on.leaf }) × HasUnsound on.row)
    ⊎ ((fault.rule ≡ rules.ChainLength) × (¬ (All IsNear on.row.places)))

-- a value that can be read whole: its bytes are the stated number, and they spell it
pub record IsWholeLong (file : List ℕ) (kind : ColumnType) (local : List ℕ) (value : Value) : Type 0 where
  pub fits : FitsLong kind local
  pub follow : CanFollow file (reference_of local)
  pub size : length (whole_bytes file local) ≡ stated_length local
  pub spelled : Spell kind value (whole_bytes file local)

-- the value that is read of a column
pub record ReadsValue (file : List ℕ) (cell : CellView) (value : Value) : Type 0 where
  pub null : cell.place.null ≡ true → value ≡ Null
  pub local : cell.place.null ≡ false → cell.place.external ≡ false → Spell cell.kind value (local_bytes cell)
  pub long : cell.place.null ≡ false → cell.place.external ≡ true
      → IsWholeLong file cell.kind (local_bytes cell) value

-- the pages that a column goes on in
abbrev pub pages_of_cell : List ℕ → CellView → List ℕ
pages_of_cell file cell = pages_of_field file (Column cell.kind) cell.page cell.place

-- a column can be read in so many fetches
pub record CanReadCell (file : List ℕ) (cell : CellView) (left : ℕ) : Type 0 where
  pub value : Value
  pub reads : ReadsValue file cell value
  pub few : length (pages_of_cell file cell) ≤ left

-- the pages that the first columns of a row go on in, and all of them
unfoldable pub pages_of_columns : List ℕ → RowView → ℕ → List ℕ
pages_of_columns file row count = flat_map (λ c. pages_of_cell file (cell_of_column row c)) (range_with_len 0 count)

abbrev pub pages_of_all : List ℕ → RowView → List ℕ
pages_of_all file row = pages_of_columns file row (length row.table.columns)

-- the values that are read of a row
pub record ReadsRow (file : List ℕ) (row : RowView) (row_values : List Value) : Type 0 where
  pub count : length row_values ≡ length row.table.columns
  pub each : (c : ℕ) → c < length row.table.columns
      → ReadsValue file (cell_of_column row c) (slice_index_or row_values c Null)

-- a row can be read in so many fetches
pub record CanReadRow (file : List ℕ) (row : RowView) (left : ℕ) : Type 0 where
  pub row_values : List Value
  pub reads : ReadsRow file row row_values
  pub few : length (pages_of_all file row) ≤ left
