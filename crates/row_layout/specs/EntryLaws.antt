-- Entries fit their fields and are short, and their keys rise.
use Rattle.std.specs.Prelude.{◌≡◌, ℕ, ◌<◌, List, [], length, slice_index_or, All}
use Rattle.std.specs.List.{AllZip}
use Rattle.column_values.specs.declared.value.Value.{Value}
use Rattle.column_values.specs.Types.{Fields}
use Rattle.compact_record.specs.Writing.{FitFields}
use Rattle.schema_text.specs.TableDef.{TableDef}
use Rattle.schema_text.specs.Grammar.{IsTable}
use Rattle.schema_text.specs.IndexFields.{leaf_fields, node_fields}
use Rattle.tree_layout.specs.Entries.{Entry, EntriesAscend, AreAlike, key_of_entry}
use Rattle.tree_layout.specs.Division.{FitsAlone, HasSmallPointers, CanDivide}
use Rattle.tree_layout.specs.Sorted.{HaveOwnKeys}
use Rattle.row_layout.specs.StoredRow.{Stored}
use Rattle.row_layout.specs.RowKeys.{AreTableRows, key_of_row, RowsRise}
use Rattle.row_layout.specs.HoldsValues.{AreFitted, clustered_entries}
use Rattle.row_layout.specs.SecondaryEntries.{row_entries}
use Rattle.row_layout.specs.LeafEntries.{leaf_entries}

-- the parts of an entry fit their fields; it fits a page alone, and any two pointers by its key fit one page
pub record IsShort (leaf node : Fields) (entry : Entry) : Type 0 where
  pub fit : FitFields leaf entry
  pub alone : FitsAlone leaf entry
  pub pointers : HasSmallPointers node entry

-- the records of rows are short, whatever the numbers of pages are
abbrev pub RowsAreShort : Type 0
RowsAreShort =
    (table : TableDef) (rows : List (List Value)) (stored : List (List Stored)) (number : ℕ → ℕ → ℕ → ℕ)
    → IsTable table → AreFitted table rows stored
    → All (IsShort (leaf_fields table 0) (node_fields table 0)) (clustered_entries table.format number stored)

-- the entries of the other indexes are short
abbrev pub EntriesAreShort : Type 0
EntriesAreShort =
    (table : TableDef) (j : ℕ) (rows : List (List Value)) → IsTable table → 0 < j → j < length table.indexes
    → AreTableRows table rows → All (IsShort (leaf_fields table j) (node_fields table j)) (row_entries table j rows)

-- the records of rows have the keys of the rows
abbrev pub EntriesHaveKeys : Type 0
EntriesHaveKeys =
    (table : TableDef) (rows : List (List Value)) (stored : List (List Stored)) (number : ℕ → ℕ → ℕ → ℕ) (r : ℕ)
    → IsTable table → AreFitted table rows stored → r < length rows
    → key_of_entry (leaf_fields table 0).keys (slice_index_or (clustered_entries table.format number stored) r [])
    ≡ key_of_row table r (slice_index_or rows r [])

-- the clustered records rise if the rows do
abbrev pub RowEntriesRise : Type 0
RowEntriesRise =
    (table : TableDef) (rows : List (List Value)) (stored : List (List Stored)) (number : ℕ → ℕ → ℕ → ℕ)
    → IsTable table → AreFitted table rows stored → length rows < 281474976710656 → RowsRise table rows
    → EntriesAscend (leaf_fields table 0) (clustered_entries table.format number stored)

-- the entries of every other index have keys of their own
abbrev pub EntriesDiffer : Type 0
EntriesDiffer =
    (table : TableDef) (j : ℕ) (rows : List (List Value)) → IsTable table → 0 < j → j < length table.indexes
    → AreTableRows table rows → length rows < 281474976710656 → RowsRise table rows
    → HaveOwnKeys (leaf_fields table j) (row_entries table j rows)

-- the parts of leaf entries have the same lengths, whatever the numbers of pages are
abbrev pub EntriesAreAlike : Type 0
EntriesAreAlike =
    (table : TableDef) (rows : List (List Value)) (stored : List (List Stored)) (n m : ℕ → ℕ → ℕ → ℕ) (j : ℕ)
    → AllZip AreAlike (leaf_entries table rows stored n j) (leaf_entries table rows stored m j)

-- the entries of each index can be divided into the levels of a tree
abbrev pub EntriesCanDivide : Type 0
EntriesCanDivide =
    (table : TableDef) (rows : List (List Value)) (stored : List (List Stored)) (number : ℕ → ℕ → ℕ → ℕ) (j : ℕ)
    → IsTable table → AreFitted table rows stored → length rows < 281474976710656 → RowsRise table rows
    → j < length table.indexes
    → CanDivide (leaf_fields table j) (node_fields table j) (leaf_entries table rows stored number j)
