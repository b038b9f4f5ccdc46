-- The whole tablespace of some rows of a table.
use Rattle.std.specs.Prelude.{ℕ, ◌+◌, ◌≤◌, ◌==◌, if◌then◌else◌, List, [], ◌∷◌, ◌++◌, length, map, flat_map}
use Rattle.std.specs.List.{range_with_len}
use Rattle.page_source.specs.Objects.{PageMap, file_of}
use Rattle.schema_text.specs.Formats.{flags_of}
use Rattle.schema_text.specs.TableDef.{TableDef}
use Rattle.schema_text.specs.IndexFields.{leaf_fields, node_fields}
use Rattle.tree_layout.specs.Entries.{Entry}
use Rattle.space_layout.specs.Numbers.{sizes_of, extents_needed, space_pages, segment_page}
use Rattle.space_layout.specs.HeadPages.{bitmap_page, inode_page}
use Rattle.space_layout.specs.NumberedPages.{Numbered, numbered_map}
use Rattle.space_layout.specs.ValuePlaces.{value_page_number, value_page_count}
use Rattle.tree_layout.specs.Division.{Level, tree_levels, level_counts}
use Rattle.tree_layout.specs.Places.{top_size, leaf_size, tree_number}
use Rattle.row_layout.specs.StoredRow.{stored_at, off_bytes}
use Rattle.row_layout.specs.HoldsValues.{stored_in}
use Rattle.row_layout.specs.LeafEntries.{leaf_entries}
use Rattle.row_store.specs.StoredRows.{Rows, stored_rows}
use Rattle.space_builder.specs.layout.TreePage.{tree_page, pages_of_level, pages_of_tree}
use Rattle.space_builder.specs.layout.ValuePage.{value_page_bytes, page_counts, pages_of_values}

-- the leaf entries of index j, where part k of field i of row r has the page `number r i k`
abbrev pub entries_with : TableDef → Rows → (ℕ → ℕ → ℕ → ℕ) → ℕ → List Entry
entries_with table rows number j = leaf_entries table rows (stored_rows table rows) number j

-- how many pages each level of index j has, which no number changes
unfoldable pub tree_counts : TableDef → Rows → ℕ → List ℕ
tree_counts table rows j =
    level_counts
    (tree_levels (leaf_fields table j) (node_fields table j) (λ l k. 0) (entries_with table rows (λ r i k. 0) j))

-- how many pages each field of each row goes on in, and how many they are
unfoldable pub value_counts : TableDef → Rows → List (List ℕ)
value_counts table rows = page_counts table.format (stored_rows table rows)

abbrev pub value_total : TableDef → Rows → ℕ
value_total table rows = value_page_count (value_counts table rows)

-- how many pages the two segments of index j have, and all segments
abbrev pub index_sizes : TableDef → Rows → ℕ → ℕ × ℕ
index_sizes table rows j = (
  top_size (tree_counts table rows j),
  leaf_size (tree_counts table rows j) + (if j == 0 then value_total table rows else 0),
)

unfoldable pub segment_sizes : TableDef → Rows → List ℕ
segment_sizes table rows = sizes_of (map (index_sizes table rows) (range_with_len 0 (length table.indexes)))

-- the number of part k of field i of row r, and of page k of level l of index j
unfoldable pub value_number : TableDef → Rows → ℕ → ℕ → ℕ → ℕ
value_number table rows r i k =
    value_page_number (segment_sizes table rows) (leaf_size (tree_counts table rows 0)) (value_counts table rows) r i k

unfoldable pub page_number : TableDef → Rows → ℕ → ℕ → ℕ → ℕ
page_number table rows j l k =
    tree_number (segment_page (segment_sizes table rows)) (tree_counts table rows j) j l k

-- the entries and the levels of index j with these numbers
unfoldable pub index_entries : TableDef → Rows → ℕ → List Entry
index_entries table rows j = entries_with table rows (value_number table rows) j

unfoldable pub index_levels : TableDef → Rows → ℕ → List Level
index_levels table rows j =
    tree_levels (leaf_fields table j) (node_fields table j) (page_number table rows j) (index_entries table rows j)

-- page k of level l of index j, the pages of that level, and of that index
abbrev pub layout_tree_page : TableDef → Rows → ℕ → ℕ → ℕ → List ℕ
layout_tree_page table rows j l k =
    tree_page (leaf_fields table j) (node_fields table j) (page_number table rows j) (index_levels table rows j) j l k

abbrev pub level_pages : TableDef → Rows → ℕ → ℕ → List Numbered
level_pages table rows j l =
    pages_of_level (leaf_fields table j) (node_fields table j) (page_number table rows j) (index_levels table rows j)
    j l

abbrev pub index_pages : TableDef → Rows → ℕ → List Numbered
index_pages table rows j =
    pages_of_tree (leaf_fields table j) (node_fields table j) (page_number table rows j) (index_levels table rows j) j

-- the page of part k of field i of row r, and the pages of all values
abbrev pub field_bytes : TableDef → Rows → ℕ → ℕ → List ℕ
field_bytes table rows r i = off_bytes table.format (stored_at (stored_in (stored_rows table rows) r) i)

abbrev pub layout_value_page : TableDef → Rows → ℕ → ℕ → ℕ → List ℕ
layout_value_page table rows r i k = value_page_bytes (value_number table rows r i) (field_bytes table rows r i) k

abbrev pub value_pages : TableDef → Rows → List Numbered
value_pages table rows = pages_of_values table.format (value_number table rows) (stored_rows table rows)

-- the pages of all trees, and of all segments
abbrev pub trees_pages : TableDef → Rows → List Numbered
trees_pages table rows = flat_map (index_pages table rows) (range_with_len 0 (length table.indexes))

unfoldable pub segment_pages : TableDef → Rows → List Numbered
segment_pages table rows = trees_pages table rows ++ value_pages table rows

-- the second and the third page of the tablespace
abbrev pub system_pages : List ℕ → List Numbered
system_pages sizes = (2, inode_page sizes) ∷ (1, bitmap_page) ∷ []

-- how many extents the tablespace needs, its size in pages, and its pages by number
abbrev pub layout_extents : TableDef → Rows → ℕ
layout_extents table rows = extents_needed (segment_sizes table rows)

abbrev pub layout_size : TableDef → Rows → ℕ
layout_size table rows = space_pages (segment_sizes table rows)

unfoldable pub layout_map : TableDef → Rows → PageMap
layout_map table rows =
    numbered_map (segment_sizes table rows) (flags_of table.format) (segment_pages table rows)

-- the bytes of the file
unfoldable pub layout_file : TableDef → Rows → List ℕ
layout_file table rows = file_of (layout_size table rows) (layout_map table rows)

-- the layout fits the greatest tablespace that is built
abbrev pub FitsSpace : TableDef → Rows → Type 0
FitsSpace table rows = layout_extents table rows ≤ 256
