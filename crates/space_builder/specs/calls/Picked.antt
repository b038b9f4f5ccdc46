-- The entries of the indexes, by the fields of the rows that are stored.
use Rattle.std.specs.Prelude.{ℕ, ◌+◌, if◌then◌else◌, false, List, map, slice_index}
use Rattle.column_values.specs.Order.{Key}
use Rattle.compact_record.specs.declared.parts.Part.{Part}
use Rattle.compact_record.specs.declared.parts.Part.TheVariants as parts
use Rattle.schema_text.specs.declared.table.Format.{Format}
use Rattle.tree_layout.specs.Entries.{Entry}
use Rattle.row_layout.specs.StoredRow.{Stored, stored_at, part_of_field}
use Rattle.row_layout.specs.HoldsValues.{stored_in}
use Rattle.row_store.specs.StoredRows.{value_of}

-- the page where field i of row r begins, among the pages of fields, of which those of row r begin at a place of its
-- own; 0 past the last, and for every part of the field
abbrev pub first_page_in : List ℕ → List ℕ → ℕ → ℕ → ℕ → ℕ
first_page_in starts pages r i k = slice_index pages (slice_index starts r + i)

-- field i of the clustered record of row r
abbrev pub clustered_part : Format → (ℕ → ℕ → ℕ → ℕ) → List (List Stored) → ℕ → ℕ → Part
clustered_part format number rows r i = part_of_field format (number r i 0) (stored_at (stored_in rows r) i)

-- a field as a part that has all its bytes
abbrev pub whole_part : Stored → Part
whole_part field = if field.null then parts.Null else parts.Bytes field.bytes false

-- the entry that has these fields of a row, and its key
abbrev pub picked_entry : List ℕ → List Stored → Entry
picked_entry fields row = map (λ i. whole_part (stored_at row i)) fields

abbrev pub picked_key : List ℕ → List Stored → Key
picked_key fields row = map (λ i. value_of (stored_at row i)) fields

-- the entries of rows in this order
unfoldable pub picked_entries : List ℕ → List (List Stored) → List ℕ → List Entry
picked_entries fields rows order = map (λ r. picked_entry fields (stored_in rows r)) order
