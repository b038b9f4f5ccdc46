-- The rows of a table as they are stored, and the entries that are picked of them.
use Rattle.std.specs.Prelude.{◌≡◌, ℕ, ◌<◌, true, List, length}
use Rattle.schema_text.specs.TableDef.{TableDef}
use Rattle.schema_text.specs.declared.table.Format.{Format}
use Rattle.schema_text.specs.Grammar.{IsTable}
use Rattle.schema_text.specs.IndexFields.{entry_fields}
use Rattle.row_layout.specs.StoredRow.{Stored, stored_at}
use Rattle.row_layout.specs.HoldsValues.{stored_in, clustered_entries}
use Rattle.row_layout.specs.SecondaryEntries.{secondary_entries}
use Rattle.row_store.specs.StoredRows.{Rows, stored_rows}
use Rattle.space_builder.specs.layout.Layout.{value_number, index_entries}
use Rattle.row_store.specs.ReadRows.{AreGoodRows}
use Rattle.space_builder.specs.calls.Picked.{picked_entries}
use Rattle.space_builder.specs.calls.Order.{IsIndexOrder}

-- these rows of a table, as they are stored
pub record AreStoredRows (table : TableDef) (rows : Rows) (stored : List (List Stored)) : Type 0 where
  pub is_table : IsTable table
  pub good : AreGoodRows table rows
  pub same : stored ≡ stored_rows table rows

-- what is picked of rows in the order of an index that isn't the clustered one is its entries
abbrev pub PicksEntries : Type 0
PicksEntries =
    (table : TableDef) (rows : Rows) (stored : List (List Stored)) (j : ℕ) (order : List ℕ)
    → AreStoredRows table rows stored → 0 < j → j < length table.indexes → IsIndexOrder table stored j order
    → picked_entries (entry_fields table j) stored order ≡ secondary_entries table j rows

-- two numberings name the same pages for the values that go off the page
abbrev pub NameSamePages : List (List Stored) → (ℕ → ℕ → ℕ → ℕ) → (ℕ → ℕ → ℕ → ℕ) → Type 0
NameSamePages stored number other =
    (r i : ℕ) → r < length stored → i < length (stored_in stored r)
    → (stored_at (stored_in stored r) i).off ≡ true → number r i 0 ≡ other r i 0

-- rows whose values name the same pages have the same records
abbrev pub SamePagesGiveRecords : Type 0
SamePagesGiveRecords =
    (format : Format) (stored : List (List Stored)) (number other : ℕ → ℕ → ℕ → ℕ)
    → NameSamePages stored number other
    → clustered_entries format number stored ≡ clustered_entries format other stored

-- the records of the rows, once the pages of their values are known, and the entries of the other indexes, are the
-- entries of the layout
pub record AreLayoutEntries (table : TableDef) (rows : Rows) (stored : List (List Stored)) : Type 0 where
  pub clustered : (number : ℕ → ℕ → ℕ → ℕ) → NameSamePages stored number (value_number table rows)
      → clustered_entries table.format number stored ≡ index_entries table rows 0
  pub picked : (j : ℕ) (order : List ℕ) → 0 < j → j < length table.indexes → IsIndexOrder table stored j order
      → picked_entries (entry_fields table j) stored order ≡ index_entries table rows j

abbrev pub StoredRowsGiveEntries : Type 0
StoredRowsGiveEntries =
    (table : TableDef) (rows : Rows) (stored : List (List Stored)) → AreStoredRows table rows stored
    → AreLayoutEntries table rows stored
