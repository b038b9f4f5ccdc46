-- A sound file loses nothing, and each line of a broken one is that of a record that stands.
use Rattle.std.specs.Prelude.{◌≡◌, ◌≢◌, ◌<◌, ℕ, true, false, List, [], length, map, AllPairs, Contains}
use Rattle.std.specs.Prelude.{Some, slice_get}
use Rattle.std.specs.List.Sorted.{IsPermutation}
use Rattle.column_values.specs.declared.value.Value.{Value}
use Rattle.page_source.specs.Pages.{page_of}
use Rattle.schema_text.specs.TableDef.{TableDef}
use Rattle.schema_text.specs.Grammar.{IsTable}
use Rattle.schema_text.specs.IndexFields.{leaf_fields}
use Rattle.row_text.specs.Line.{line_of}
use Rattle.tree_walk.specs.Index.{index_id, leaf_pages}
use Rattle.table_check.specs.Rows.{AreRows}
use Rattle.table_check.specs.Trees.{clustered_tree, index_in, index_count}
use Rattle.table_check.specs.Values.{live_rows}
use Rattle.table_check.specs.Valid.{IsValid}
use Rattle.sql_dump.specs.Cells.{ReadsRow}
use Rattle.leaf_salvage.specs.Leaf.{IsWholeLeaf}
use Rattle.salvage_model.specs.declared.kind.RecordKind.TheVariants.{Live}
use Rattle.salvage_model.specs.Records.{places_of}
use Rattle.salvage_model.specs.Judged.{losses_in}
use Rattle.salvage_model.specs.SavedRow.{is_whole_row}
use Rattle.salvage_model.specs.Outcome.{Job, SavedRow, Outcome, Leaf, row_at_place}
use Rattle.salvage_model.specs.Saved.{AreFirst, IsSaved, IsComplete, rows_of, line_of_row, numbers_of}
use Rattle.salvage_model.specs.Report.{losses_of}

-- no other index has the id of the clustered one
abbrev pub HasOwnId : List ℕ → TableDef → Type 0
HasOwnId file table =
    (j : ℕ) → 0 < j → j < index_count table → index_id (index_in file table j) ≢ index_id (clustered_tree file table)

-- the salvage of the rows of a file whose pages can all be fetched, for the id of its clustered tree
abbrev pub whole_job : List ℕ → TableDef → Job
whole_job file table = record {
  file = file;
  table = table;
  kind = Live;
  id = index_id (clustered_tree file table);
  missed = λ n. false;
  missed_parts = λ n. false;
}

-- each row of the table is saved whole, and nothing else; the lines stand in the order of the pages. No loss is named
pub record LosesNothing (file : List ℕ) (table : TableDef) (outcomes : List Outcome) : Type 0 where
  pub complete : IsComplete (numbers_of outcomes)
  pub rows : (numbers_of outcomes).rows ≡ length (live_rows (clustered_tree file table))
  pub leaves : (numbers_of outcomes).leaves ≡ length (leaf_pages (clustered_tree file table))
  pub all : List (List Value)
  pub are : AreRows file table all
  pub lines : IsPermutation (map (line_of_row table) (rows_of outcomes)) (map (line_of table) all)
  pub unnamed : losses_of table outcomes ≡ []

abbrev pub SoundFilesLoseNothing : Type 0
SoundFilesLoseNothing =
    (file : List ℕ) (table : TableDef) (outcomes : List Outcome) → IsTable table → IsValid file table
    → HasOwnId file table → IsSaved (whole_job file table) outcomes → LosesNothing file table outcomes

-- there is a salvage of the job
pub record HasOutcomes (job : Job) : Type 0 where
  pub outcomes : List Outcome
  pub is_saved : IsSaved job outcomes

abbrev pub SoundFilesHaveOutcomes : Type 0
SoundFilesHaveOutcomes =
    (file : List ℕ) (table : TableDef) → IsTable table → IsValid file table → HasOwnId file table
    → HasOutcomes (whole_job file table)

-- page n is a leaf with this row among those that were saved
pub record HasRow (outcomes : List Outcome) (n : ℕ) (row : SavedRow) : Type 0 where
  pub rows : List SavedRow
  pub leaf : slice_get outcomes n ≡ Some (Leaf rows)
  pub among : Contains rows row

-- if nothing of a row is lost, its values are those that are read of it, and its line is theirs
pub record IsWholeLine (job : Job) (n : ℕ) (row : SavedRow) : Type 0 where
  pub row_values : List Value
  pub reads : ReadsRow job.file (row_at_place job n row.place).row row_values
  pub line : line_of_row job.table row ≡ line_of job.table row_values

-- a record of the kind, of a leaf that stands whole by itself
pub record StandsOn (job : Job) (n : ℕ) (row : SavedRow) : Type 0 where
  pub leaf : IsWholeLeaf (page_of job.file n) n job.id (leaf_fields job.table 0)
  pub place : Contains (places_of job.kind (page_of job.file n)) row.place
  pub whole : is_whole_row (losses_in row.columns) ≡ true → IsWholeLine job n row

-- each row that is saved is a record of the kind, of a leaf that stands whole by itself, and none is saved twice
pub record RowsStand (job : Job) (outcomes : List Outcome) : Type 0 where
  pub stand : (n : ℕ) (row : SavedRow) → HasRow outcomes n row → StandsOn job n row
  pub once : (n : ℕ) (rows : List SavedRow) → slice_get outcomes n ≡ Some (Leaf rows)
      → AllPairs (λ (a b : SavedRow). a.place ≢ b.place) rows

abbrev pub SavedRowsStand : Type 0
SavedRowsStand = (job : Job) (outcomes : List Outcome) → AreFirst job outcomes → RowsStand job outcomes

-- a salvage of a table with the same pages missed has at most one list of outcomes
abbrev pub HasOneOutcome : Type 0
HasOneOutcome =
    (job : Job) (a b : List Outcome) → IsTable job.table → IsSaved job a → IsSaved job b → a ≡ b
