-- A salvage that got as far as a row whose values go on in other pages, which are read a second time for its line.
use Rattle.std.specs.Prelude.{◌≡◌, ◌≢◌, ◌++◌, ◌∷◌, [], List, length}
use Rattle.salvage_model.specs.Judged.{losses_in}
use Rattle.salvage_model.specs.SavedRow.{saved_pages}
use Rattle.salvage_model.specs.Outcome.{Job, SavedRow, Outcome, Leaf, row_at_place}

-- the last of these outcomes is that of a leaf, and values that are saved of its last row go on in other pages
pub record EndsInLongRow (job : Job) (outcomes : List Outcome) : Type 0 where
  pub before : List Outcome
  pub rows : List SavedRow
  pub row : SavedRow
  pub last : outcomes ≡ before ++ Leaf (rows ++ row ∷ []) ∷ []
  pub long : saved_pages job.file (row_at_place job (length before) row.place).row (losses_in row.columns) ≢ []
