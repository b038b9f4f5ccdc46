-- What is saved of a file: the outcomes of its pages in their order, their text, and their numbers.
use Rattle.std.specs.Prelude.{◌≡◌, ◌≤◌, ◌<◌, ◌+◌, ℕ, if◌then◌else◌, List, [], length, flat_map, sum_by}
use Rattle.std.specs.Prelude.{slice_index_or}
use Rattle.space_audit.specs.Marks.{is_in}
use Rattle.schema_text.specs.TableDef.{TableDef}
use Rattle.leaf_salvage.specs.Standing.{reach_of}
use Rattle.salvage_model.specs.Follow.{Follow}
use Rattle.salvage_model.specs.Judged.{losses_in}
use Rattle.salvage_model.specs.SavedRow.{is_whole_row}
use Rattle.salvage_model.specs.SavedLine.{saved_line}
use Rattle.salvage_model.specs.declared.saved.Saved.{Saved}
use Rattle.salvage_model.specs.Outcome.{Job, SavedRow, Outcome, Unused, Unread, Lost, Leaf}
use Rattle.salvage_model.specs.Outcome.{looked_of_pages, ComesOf, IsFull}

-- the outcomes of the first pages, each after the pages before it; the last may have further rows
pub record AreFirst (job : Job) (outcomes : List Outcome) : Type 0 where
  pub few : length outcomes ≤ reach_of job.file
  pub each : Follow (λ before n outcome. ComesOf job n (is_in (looked_of_pages before)) outcome) outcomes
  pub full : (n : ℕ) → n + 1 < length outcomes → IsFull job n (slice_index_or outcomes n Unused)

-- the outcomes of all pages, each after the pages before it
pub record IsSaved (job : Job) (outcomes : List Outcome) : Type 0 where
  pub first : AreFirst job outcomes
  pub all : length outcomes ≡ reach_of job.file
  pub full : (n : ℕ) → n < length outcomes → IsFull job n (slice_index_or outcomes n Unused)

-- the rows of a page
abbrev pub rows_on : Outcome → List SavedRow
rows_on (Leaf rows) = rows
rows_on _ = []

abbrev pub rows_of : List Outcome → List SavedRow
rows_of outcomes = flat_map rows_on outcomes

-- the line of a row, and the lines of all rows in the order of the pages
abbrev pub line_of_row : TableDef → SavedRow → List ℕ
line_of_row table row = saved_line table row.row_values

unfoldable pub text_of : TableDef → List Outcome → List ℕ
text_of table outcomes = flat_map (line_of_row table) (rows_of outcomes)

-- how many rows are whole, how many aren't, how many leaves there are, and how many pages are lost
abbrev pub whole_count : SavedRow → ℕ
whole_count row = if is_whole_row (losses_in row.columns) then 1 else 0

abbrev pub partial_count : SavedRow → ℕ
partial_count row = if is_whole_row (losses_in row.columns) then 0 else 1

abbrev pub leaf_count : Outcome → ℕ
leaf_count (Leaf rows) = 1
leaf_count _ = 0

abbrev pub lost_count : Outcome → ℕ
lost_count Unread = 1
lost_count (Lost rule) = 1
lost_count _ = 0

unfoldable pub numbers_of : List Outcome → Saved
numbers_of outcomes = record {
  rows = sum_by whole_count (rows_of outcomes);
  partial = sum_by partial_count (rows_of outcomes);
  leaves = sum_by leaf_count outcomes;
  lost = sum_by lost_count outcomes;
}

-- nothing is lost, and there is a leaf
pub record IsComplete (saved : Saved) : Type 0 where
  pub rows : saved.partial ≡ 0
  pub pages : saved.lost ≡ 0
  pub some : 0 < saved.leaves
