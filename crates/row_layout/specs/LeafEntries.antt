-- The leaf records of all indexes.
use Rattle.std.specs.Prelude.{ℕ, ◌==◌, if◌then◌else◌, List}
use Rattle.column_values.specs.declared.value.Value.{Value}
use Rattle.schema_text.specs.TableDef.{TableDef}
use Rattle.tree_layout.specs.Entries.{Entry}
use Rattle.row_layout.specs.StoredRow.{Stored}
use Rattle.row_layout.specs.HoldsValues.{clustered_entries}
use Rattle.row_layout.specs.SecondaryEntries.{secondary_entries}

-- the leaf entries of index j
abbrev pub leaf_entries : TableDef → List (List Value) → List (List Stored) → (ℕ → ℕ → ℕ → ℕ) → ℕ → List Entry
leaf_entries table rows stored number j =
    if j == 0 then clustered_entries table.format number stored else secondary_entries table j rows
