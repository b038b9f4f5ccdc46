-- A file that holds the rows of a table: their records, and the pages of their long values.
use Rattle.std.specs.Prelude.{◌≡◌, ℕ, ◌+◌, ◌<◌, ◌≤◌, ◌==◌, ◌⊎◌, if◌then◌else◌, true, List, length, map}
use Rattle.std.specs.Prelude.{flat_map, slice_index_or, Contains, Some, []}
use Rattle.std.specs.List.{AllZip, range_with_len}
use Rattle.page_source.specs.Pages.{page_of, fil_null}
use Rattle.fil_frame.specs.Frame.{space_of}
use Rattle.column_values.specs.declared.value.Value.{Value}
use Rattle.space_header.specs.Header.{size_of}
use Rattle.space_audit.specs.Owners.{IsUsedBy}
pub use Rattle.offpage_chain.specs.ValuePage.{pages_for, blob_part}
use Rattle.offpage_chain.specs.Chain.{part_length, next_part, part_bytes, IsBlobPage}
use Rattle.schema_text.specs.TableDef.{TableDef}
use Rattle.schema_text.specs.Grammar.{IsTable}
use Rattle.schema_text.specs.IndexFields.{leaf_fields}
use Rattle.row_text.specs.Line.{IsTableRow}
use Rattle.tree_walk.specs.Segments.{leaf_segment}
use Rattle.tree_walk.specs.Laws.{ComeOnce}
use Rattle.table_check.specs.Trees.{clustered_tree}
use Rattle.table_check.specs.Values.{live_rows}
use Rattle.table_check.specs.Valid.{pages_of_descents}
use Rattle.schema_text.specs.declared.table.Format.{Format}
use Rattle.tree_layout.specs.Entries.{Entry}
use Rattle.tree_layout.specs.Entries.{IsRowOf}
use Rattle.row_layout.specs.StoredRow.{Stored, stored_at, off_bytes, parts_of_row, fitted_row}

-- page n is a BLOB page that the segment uses, has these bytes, and leads to page `next`
pub record HoldsValuePart (file : List ℕ) (segment n next : ℕ) (bytes : List ℕ) : Type 0 where
  pub blob : IsBlobPage file segment n
  pub size : part_length (page_of file n) ≡ length bytes
  pub next_is : next_part (page_of file n) ≡ next
  pub bytes_are : part_bytes (page_of file n) ≡ bytes

-- the page behind part k of so many
abbrev pub next_number : (ℕ → ℕ) → ℕ → ℕ → ℕ
next_number number count k = if k + 1 == count then fil_null else number (k + 1)

-- bytes part by part, part k on page `number k`
abbrev pub HoldsBytes : List ℕ → ℕ → (ℕ → ℕ) → List ℕ → Type 0
HoldsBytes file segment number bytes =
    (k : ℕ) → k < pages_for (length bytes)
    → HoldsValuePart file segment (number k) (next_number number (pages_for (length bytes)) k) (blob_part bytes k)

-- how many pages a field goes on in
abbrev pub pages_of_stored : Format → Stored → ℕ
pages_of_stored format field = if field.off then pages_for (length (off_bytes format field)) else 0

-- rows as they are stored, row r and field i of it
abbrev pub stored_in : List (List Stored) → ℕ → List Stored
stored_in rows r = slice_index_or rows r []

-- each page of each field of each row, by the numbers of row, field and part
abbrev pub EachPart : Format → List (List Stored) → (ℕ → ℕ → ℕ → Type 0) → Type 0
EachPart format rows P =
    (r i k : ℕ) → r < length rows → i < length (stored_in rows r)
    → k < pages_of_stored format (stored_at (stored_in rows r) i) → P r i k

-- the records of the clustered index, where part k of field i of row r has the page `number r i k`
abbrev pub clustered_entry : Format → (ℕ → ℕ → ℕ → ℕ) → List (List Stored) → ℕ → Entry
clustered_entry format number rows r = parts_of_row format (λ i. number r i 0) (stored_in rows r)

unfoldable pub clustered_entries : Format → (ℕ → ℕ → ℕ → ℕ) → List (List Stored) → List Entry
clustered_entries format number rows = map (clustered_entry format number rows) (range_with_len 0 (length rows))

-- the pages of the values of all rows, one after another
abbrev pub field_page_numbers : Format → (ℕ → ℕ) → Stored → List ℕ
field_page_numbers format number field = map number (range_with_len 0 (pages_of_stored format field))

abbrev pub row_page_numbers : Format → (ℕ → ℕ → ℕ) → List Stored → List ℕ
row_page_numbers format number row =
    flat_map (λ i. field_page_numbers format (number i) (stored_at row i)) (range_with_len 0 (length row))

unfoldable pub value_page_numbers : Format → (ℕ → ℕ → ℕ → ℕ) → List (List Stored) → List ℕ
value_page_numbers format number rows =
    flat_map (λ r. row_page_numbers format (number r) (stored_in rows r)) (range_with_len 0 (length rows))

-- rows of the table, each as it is stored
pub record AreFitted (table : TableDef) (rows : List (List Value)) (stored : List (List Stored)) : Type 0 where
  pub count : length stored ≡ length rows
  pub are_rows : (r : ℕ) → r < length rows → IsTableRow table (slice_index_or rows r [])
  pub fit : (r : ℕ) → r < length rows
      → fitted_row table r (slice_index_or rows r []) ≡ Some (stored_in stored r)

-- the file holds the rows of a table: its live records are theirs, and each part of a value that goes off the page
-- stands on its own page of the clustered leaf segment
pub record HoldsRows (file : List ℕ) (table : TableDef) (rows : List (List Value)) (stored : List (List Stored))
    (number : ℕ → ℕ → ℕ → ℕ) : Type 0 where
  pub is_table : IsTable table
  pub are_fitted : AreFitted table rows stored
  pub space : space_of (page_of file 0) ≡ 1
  pub most : size_of file ≤ 4194304
  pub records : AllZip (IsRowOf (clustered_tree file table) (leaf_fields table 0))
      (live_rows (clustered_tree file table))
      (clustered_entries table.format number stored)
  pub values : (r i : ℕ) → r < length stored → i < length (stored_in stored r)
      → (stored_at (stored_in stored r) i).off ≡ true
      → HoldsBytes file (leaf_segment (clustered_tree file table)) (number r i)
      (off_bytes table.format (stored_at (stored_in stored r) i))

-- the pages of values differ from each other, and from all pages of trees
pub record HaveOwnPages (file : List ℕ) (table : TableDef) (stored : List (List Stored)) (number : ℕ → ℕ → ℕ → ℕ)
    : Type 0 where
  pub trees : ComeOnce (pages_of_descents file table)
  pub one : EachPart table.format stored (λ r i k. EachPart table.format stored (λ s j m.
      number r i k ≡ number s j m → (r ≡ s) × (i ≡ j) × (k ≡ m)))
  pub apart : EachPart table.format stored (λ r i k. ¬ (Contains (pages_of_descents file table) (number r i k)))

-- a page of a value
pub record IsValuePage (format : Format) (stored : List (List Stored)) (number : ℕ → ℕ → ℕ → ℕ) (n : ℕ) : Type 0 where
  pub r : ℕ
  pub i : ℕ
  pub k : ℕ
  pub row : r < length stored
  pub field : i < length (stored_in stored r)
  pub part : k < pages_of_stored format (stored_at (stored_in stored r) i)
  pub same : number r i k ≡ n

-- each page that a segment uses is one of a tree or of a value
abbrev pub HasNoOthers : List ℕ → TableDef → List (List Stored) → (ℕ → ℕ → ℕ → ℕ) → Type 0
HasNoOthers file table stored number =
    (segment n : ℕ) → IsUsedBy file segment n
    → Contains (pages_of_descents file table) n ⊎ IsValuePage table.format stored number n
