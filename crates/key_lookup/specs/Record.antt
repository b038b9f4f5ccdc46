-- The row with a key, on the leaf where the key belongs.
use Rattle.std.specs.Prelude.{◌≡◌, ℕ, ◌<◌, Bool, true, false, List, [], ◌++◌, length, filter, slice_get, slice_index_or}
use Rattle.std.specs.Prelude.{Option, Some, None}
use Rattle.std.specs.Ordering.{is_eq}
use Rattle.column_values.specs.declared.kind.ColumnType.{ColumnType}
use Rattle.column_values.specs.declared.value.Value.{Value}
use Rattle.column_values.specs.declared.value.Value.TheVariants.{Null}
use Rattle.column_values.specs.Order.{Key, key_cmp}
use Rattle.column_values.specs.Spell.{Spell}
use Rattle.compact_record.specs.declared.places.Place.{Place}
use Rattle.compact_record.specs.Reading.{key_kinds}
use Rattle.offpage_chain.specs.Reference.{reference_of}
use Rattle.offpage_chain.specs.Chain.{chain_pages, bytes_on}
use Rattle.schema_text.specs.TableDef.{TableDef, column_at}
use Rattle.tree_walk.specs.Index.{Index, Row, page_in, rows_on, is_live_row}
use Rattle.tree_walk.specs.Laws.{row_key}
use Rattle.table_check.specs.Trees.{clustered_tree}
use Rattle.table_check.specs.Values.{bytes_at, front_of, pages_of_row}
use Rattle.table_check.specs.Rows.{place_of_column}
use Rattle.key_lookup.specs.Path.{leaf_for}

-- whether the key of a row is neither less nor greater
abbrev pub has_key : Index → Key → Row → Bool
has_key index key row = is_eq (key_cmp (key_kinds index.leaf) (row_key index row) key)

-- the records of a page with the key
unfoldable pub records_with : Index → Key → ℕ → List Row
records_with index key n = filter (has_key index key) (rows_on index n)

-- the record on a page that has the key and no delete mark, if there is one
unfoldable pub row_on : Index → Key → ℕ → Option Row
row_on index key n = slice_get (filter (is_live_row index) (records_with index key n)) 0

-- the row with the key: that on the leaf where the key belongs
abbrev pub found_row : Index → Key → Option Row
found_row index key = row_on index key (leaf_for index key)

-- the pages that the values of the row go on in, if there is one
abbrev pub found_pages : Index → Option Row → List ℕ
found_pages index None = []
found_pages index (Some row) = pages_of_row index row

-- the value of a column by its place on the leaf, and by the pages that it leads to
pub record HasFoundValue (file : List ℕ) (kind : ColumnType) (page : List ℕ) (place : Place) (value : Value)
    : Type 0 where
  pub null : place.null ≡ true → value ≡ Null
  pub local : place.null ≡ false → place.external ≡ false → Spell kind value (bytes_at page place)
  pub external : place.null ≡ false → place.external ≡ true
      → Spell kind value
      (front_of (bytes_at page place) ++ bytes_on file (chain_pages file (reference_of (bytes_at page place))))

-- the values of a row, in table order
pub record IsFoundRow (file : List ℕ) (table : TableDef) (row : Row) (row_values : List Value) : Type 0 where
  pub count : length row_values ≡ length table.columns
  pub each : (c : ℕ) → c < length table.columns
      → HasFoundValue file (column_at table c).kind (page_in (clustered_tree file table) row.page)
      (place_of_column (clustered_tree file table) table row c) (slice_index_or row_values c Null)
