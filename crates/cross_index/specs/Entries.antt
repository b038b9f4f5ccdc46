-- The keys of a secondary index: those that the rows ask for, and those that its entries have (row0row, dict0dict).
use Rattle.std.specs.Prelude.{ℕ, if◌then◌else◌, List, map, Option, None, Some}
use Rattle.column_values.specs.declared.field.FieldType.{FieldType}
use Rattle.column_values.specs.Order.{Key}
use Rattle.compact_record.specs.declared.places.Place.{Place}
use Rattle.compact_record.specs.Reading.{place_of, key_kinds}
use Rattle.schema_text.specs.TableDef.{TableDef}
use Rattle.schema_text.specs.IndexFields.{leaf_fields, entry_fields}
use Rattle.tree_walk.specs.Index.{Index, Row, page_in}
use Rattle.tree_walk.specs.Laws.{row_key}
use Rattle.table_check.specs.Trees.{index_in, clustered_tree}
use Rattle.table_check.specs.Values.{bytes_at, live_rows}
use Rattle.sql_dump.specs.Long.{whole_bytes}

-- the bytes of a field by its place: none for null, and those of the whole value if it goes on elsewhere
abbrev pub whole_cell : List ℕ → List ℕ → Place → Option (List ℕ)
whole_cell file page place =
    if place.null then None
    else Some (if place.external then whole_bytes file (bytes_at page place) else bytes_at page place)

-- the bytes of field k of a row
unfoldable pub field_of_row : Index → Row → ℕ → Option (List ℕ)
field_of_row index row k =
    whole_cell index.file (page_in index row.page) (place_of (page_in index row.page) row.origin index.leaf k)

-- the key that a row asks index i to have
abbrev pub projection : List ℕ → TableDef → ℕ → Row → Key
projection file table i row = map (field_of_row (clustered_tree file table) row) (entry_fields table i)

-- the rows of the table, and the entries of index i: its records without the delete mark
abbrev pub rows_in : List ℕ → TableDef → List Row
rows_in file table = live_rows (clustered_tree file table)

abbrev pub entries_in : List ℕ → TableDef → ℕ → List Row
entries_in file table i = live_rows (index_in file table i)

-- the kinds of the fields of an entry
abbrev pub entry_kinds : TableDef → ℕ → List FieldType
entry_kinds table i = key_kinds (leaf_fields table i)

-- the keys that the rows ask for, in the order of the rows, and those that the entries have, in theirs
unfoldable pub row_keys : List ℕ → TableDef → ℕ → List Key
row_keys file table i = map (projection file table i) (rows_in file table)

unfoldable pub entry_keys : List ℕ → TableDef → ℕ → List Key
entry_keys file table i = map (row_key (index_in file table i)) (entries_in file table i)
