-- The columns of a row: where they lie, and what is read there.
use Rattle.std.proofs.Common.{◌≡◌, ℕ, ◌<◌, List, length, get_or, All, ap, ◌∙◌}
use Rattle.std.proofs.Common.{arith}
use Rattle.std.proofs.lemmas.List.{get_or_default}
use Rattle.column_values.specs.declared.kind.ColumnType.{ColumnType}
use Rattle.column_values.specs.declared.value.Value.{Value}
use Rattle.column_values.specs.declared.value.Value.TheVariants.{Null}
use Rattle.compact_record.specs.declared.places.Place.{Place}
use Rattle.schema_text.specs.declared.table.Column.{Column}
use Rattle.schema_text.specs.TableDef.{TableDef, column_at}
use Rattle.schema_text.specs.Grammar.{IsTable}
use Rattle.schema_text.specs.IndexFields.{field_of_column}
use Rattle.sql_dump.specs.Cells.{RowView, CellView, AreCells, HavePlaces, IsNear, IsSound, ReadsValue}
use Rattle.sql_dump.specs.Cells.{ReadsRow, cell_of_column, pages_of_cell}
use Rattle.sql_dump.specs.Cells.{place_in}
use Rattle.schema_text.proofs.ColumnFields.{holds_column}
use Rattle.schema_text.proofs.EntryFields.{field_at_column}

-- a value that is read may be written
pub sound_value : (file : List ℕ) (cell : CellView) (value : Value) → ReadsValue file cell value → IsSound cell
sound_value file cell value reads =
    record { local = λ n e. (value, reads.local n e); long = λ n e. (reads.long n e).fits }

-- the field of a column is among those that were read
pub field_within : (table : TableDef) (at : List ℕ) (places : List Place) (c d : ℕ) → IsTable table
    → AreCells table at places → c < length table.columns → get_or at c d < length places
field_within table at places c d is cells within =
    omega (
      arith,
      field_at_column table at c d cells.fields within,
      (holds_column table c is within).inside,
      cells.placed.all,
    )

place_of_field : (table : TableDef) (at : List ℕ) (places : List Place) (c d : ℕ) (p : Place) → IsTable table
    → AreCells table at places → c < length table.columns → get_or places (get_or at c d) p ≡ place_in table places c
unfolding place_in
place_of_field table at places c d p is cells within =
    let field = field_at_column table at c d cells.fields within in
    ap (λ (i : ℕ). get_or places i p) field
    ∙ get_or_default places (field_of_column table c) p _ (omega (
      arith,
      (holds_column table c is within).inside,
      cells.placed.all,
    ))

-- a column by its field
abbrev cell_of : ColumnType → List ℕ → Place → CellView
cell_of kind page place = record { kind = kind; page = page; place = place }

pub cell_is : (row : RowView) (at : List ℕ) (columns : List Column) (column : Column) (c d : ℕ) (p : Place)
    → IsTable row.table → AreCells row.table at row.places → columns ≡ row.table.columns
    → c < length row.table.columns
    → cell_of (get_or columns c column).kind row.page (get_or row.places (get_or at c d) p) ≡ cell_of_column row c
cell_is row at columns column c d p is cells same within =
    let kind : (get_or columns c column).kind ≡ (column_at row.table c).kind =
    ap (λ (cs : List Column). (get_or cs c column).kind) same
    ∙ ap (λ (x : Column). x.kind) (get_or_default row.table.columns c column _ within) in
    ap (λ (k : ColumnType). cell_of k row.page (get_or row.places (get_or at c d) p)) kind
    ∙ ap (cell_of (column_at row.table c).kind row.page)
    (place_of_field row.table at row.places c d p is cells within)

-- how many columns a row has, seen by its parts
pub column_count : {inside row : RowView} {columns : List Column} → inside ≡ row → columns ≡ inside.table.columns
    → length columns ≡ length row.table.columns
column_count is same = ap length same ∙ ap (λ (r : RowView). length r.table.columns) is

-- what is read of it
pub cell_reads : (file : List ℕ) (row : RowView) (c : ℕ) (cell : CellView) (row_values : List Value)
    → cell ≡ cell_of_column row c → c < length row.table.columns → ReadsRow file row row_values
    → ReadsValue file cell (get_or row_values c Null)
cell_reads file row c cell row_values is within reads = rw is (reads.each c within)

-- the pages that it goes on in
pub cell_pages : (file : List ℕ) (row : RowView) (c : ℕ) (cell : CellView) → cell ≡ cell_of_column row c
    → length (pages_of_cell file cell) ≡ length (pages_of_cell file (cell_of_column row c))
cell_pages file row c cell is = ap (λ (x : CellView). length (pages_of_cell file x)) is

-- a column is near if all fields are
pub cell_near : (row : RowView) (c : ℕ) (cell : CellView) → IsTable row.table → HavePlaces row.table row.places
    → cell ≡ cell_of_column row c → c < length row.table.columns → All IsNear row.places → IsNear cell.place
unfolding place_in
cell_near row c cell is placed cell_is within near =
    ap (λ (x : CellView). x.place.external) cell_is
    ∙ near (field_of_column row.table c) _ (omega (arith, (holds_column row.table c is within).inside, placed.all))
