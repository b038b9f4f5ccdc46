-- The leaf records of the indexes that aren't the clustered one.
use Rattle.std.specs.Prelude.{ℕ, ◌==◌, if◌then◌else◌, List, [], ◌∷◌, ◌++◌, length, map, slice_index_or}
use Rattle.std.specs.List.{range_with_len}
use Rattle.column_values.specs.declared.value.Value.{Value}
use Rattle.schema_text.specs.TableDef.{TableDef, index_at}
use Rattle.schema_text.specs.IndexFields.{leaf_fields, clustered_positions, positions_without}
use Rattle.tree_layout.specs.Entries.{Entry}
use Rattle.tree_layout.specs.Sorted.{sorted_entries}
use Rattle.row_layout.specs.StoredRow.{Stored, stored_column, row_id, part_of_field}

-- what an entry of an index over these columns has of the row's key: the columns that it lacks, or the hidden row id
abbrev pub stored_reference : TableDef → List ℕ → ℕ → List Value → List Stored
stored_reference table positions i row =
    if length (clustered_positions table) == 0 then row_id i ∷ []
    else map (stored_column table row) (positions_without (clustered_positions table) positions)

-- the fields of the entry of row i
abbrev pub stored_entry : TableDef → List ℕ → ℕ → List Value → List Stored
stored_entry table positions i row =
    map (stored_column table row) positions ++ stored_reference table positions i row

unfoldable pub secondary_entry : TableDef → ℕ → ℕ → List Value → Entry
secondary_entry table j i row =
    map (part_of_field table.format 0) (stored_entry table (index_at table j).columns i row)

-- the entries of index j, in the order of the rows, and in that of their keys
unfoldable pub row_entries : TableDef → ℕ → List (List Value) → List Entry
row_entries table j rows =
    map (λ i. secondary_entry table j i (slice_index_or rows i [])) (range_with_len 0 (length rows))

unfoldable pub secondary_entries : TableDef → ℕ → List (List Value) → List Entry
secondary_entries table j rows = sorted_entries (leaf_fields table j) (row_entries table j rows)
