-- The values of a row that were saved: those of the columns that aren't lost.
use Rattle.std.specs.Prelude.{◌≡◌, ℕ, ◌<◌, ◌≤◌, ⊤, Bool, is_none, List, [], length, flat_map, slice_index_or}
use Rattle.std.specs.Prelude.{Option, Some, None}
use Rattle.std.specs.List.{range_with_len, list_all}
use Rattle.column_values.specs.declared.value.Value.{Value}
use Rattle.sql_dump.specs.Cells.{CellView, RowView, ReadsValue, cell_of_column, pages_of_cell}
use Rattle.salvage_model.specs.declared.loss.Loss.{Loss}

-- a column that isn't lost has the value that is read of it
abbrev pub SavesValue : List ℕ → CellView → Option Loss → Option Value → Type 0
SavesValue file cell None (Some value) = ReadsValue file cell value
SavesValue file cell None None = ⊥
SavesValue file cell (Some loss) None = ⊤
SavesValue file cell (Some loss) (Some value) = ⊥

-- the values that are saved of a row with these losses
pub record SavesRow (file : List ℕ) (row : RowView) (losses : List (Option Loss)) (row_values : List (Option Value))
    : Type 0 where
  pub count : length row_values ≡ length row.table.columns
  pub each : (c : ℕ) → c < length row.table.columns
      → SavesValue file (cell_of_column row c) (slice_index_or losses c None) (slice_index_or row_values c None)

-- nothing of the row is lost
abbrev pub is_whole_row : List (Option Loss) → Bool
is_whole_row losses = list_all is_none losses

-- the pages of a value that are read once more for the line of its row, and those of all values of the row
abbrev pub pages_unless : Option Loss → List ℕ → List ℕ
pages_unless None pages = pages
pages_unless (Some loss) pages = []

unfoldable pub saved_pages : List ℕ → RowView → List (Option Loss) → List ℕ
saved_pages file row losses =
    flat_map (λ c. pages_unless (slice_index_or losses c None) (pages_of_cell file (cell_of_column row c)))
    (range_with_len 0 (length row.table.columns))

-- the values of a row that aren't lost can be read in so many fetches
pub record CanSave (file : List ℕ) (row : RowView) (losses : List (Option Loss)) (left : ℕ) : Type 0 where
  pub row_values : List (Option Value)
  pub saves : SavesRow file row losses row_values
  pub few : length (saved_pages file row losses) ≤ left
