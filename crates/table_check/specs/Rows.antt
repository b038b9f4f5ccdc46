-- The rows of a table, as its clustered tree has them in a file.
use Rattle.std.specs.Prelude.{◌≡◌, ℕ, ◌<◌, true, false, List, ◌++◌, length, slice_index_or}
use Rattle.std.specs.List.{AllZip}
use Rattle.column_values.specs.declared.kind.ColumnType.{ColumnType}
use Rattle.column_values.specs.declared.value.Value.{Value}
use Rattle.column_values.specs.declared.value.Value.TheVariants.{Null}
use Rattle.column_values.specs.Spell.{Spell}
use Rattle.compact_record.specs.declared.places.Place.{Place}
use Rattle.compact_record.specs.Reading.{place_of}
use Rattle.offpage_chain.specs.Reference.{reference_of}
use Rattle.offpage_chain.specs.Chain.{bytes_on, IsChain}
use Rattle.schema_text.specs.TableDef.{TableDef, column_at}
use Rattle.schema_text.specs.IndexFields.{field_of_column}
use Rattle.tree_walk.specs.Index.{Index, Row, page_in}
use Rattle.tree_walk.specs.Segments.{leaf_segment}
use Rattle.table_check.specs.Trees.{clustered_tree}
use Rattle.table_check.specs.Values.{bytes_at, front_of, live_rows}

-- a value in pages of its own: the local bytes before the reference, and then those of a chain
pub record IsWholeValue (file : List ℕ) (segment : ℕ) (local value : List ℕ) : Type 0 where
  pub pages : List ℕ
  pub chain : IsChain file segment (reference_of local) pages
  pub is : value ≡ front_of local ++ bytes_on file pages

-- the value that a place on a page has
pub record HasValue (file : List ℕ) (segment : ℕ) (kind : ColumnType) (page : List ℕ) (place : Place) (value : Value)
    : Type 0 where
  pub null : place.null ≡ true → value ≡ Null
  pub local : place.null ≡ false → place.external ≡ false → Spell kind value (bytes_at page place)
  pub external : place.null ≡ false → place.external ≡ true
      → (bytes : List ℕ) × IsWholeValue file segment (bytes_at page place) bytes × Spell kind value bytes

-- where column c of a record of the clustered index lies
abbrev pub place_of_column : Index → TableDef → Row → ℕ → Place
place_of_column index table row c = place_of (page_in index row.page) row.origin index.leaf (field_of_column table c)

-- the values of a row, in table order
pub record IsRow (file : List ℕ) (table : TableDef) (row : Row) (row_values : List Value) : Type 0 where
  pub count : length row_values ≡ length table.columns
  pub each : (c : ℕ) → c < length table.columns
      → HasValue file (leaf_segment (clustered_tree file table)) (column_at table c).kind
      (page_in (clustered_tree file table) row.page) (place_of_column (clustered_tree file table) table row c)
      (slice_index_or row_values c Null)

-- the rows of the table are these: one for each live record of the clustered tree, in its order
abbrev pub AreRows : List ℕ → TableDef → List (List Value) → Type 0
AreRows file table rows = AllZip (IsRow file table) (live_rows (clustered_tree file table)) rows
