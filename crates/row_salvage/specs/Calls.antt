-- What the checks of columns answer, and what they leave of the source.
use Rattle.std.specs.Prelude.{◌≡◌, ◌+◌, ◌≤◌, ℕ, Bool, ◌&&◌, not, if◌then◌else◌, List, [], ◌∷◌, length}
use Rattle.std.specs.Prelude.{Option, Some, None, Result, Ok, Err}
use Rattle.page_source.specs.declared.objects.PageSource.{Ghosts as FileOf}
use Rattle.page_source.specs.Lists.{unmarked}
use Rattle.page_source.specs.Calls.{OfFile, AsksNoMore}
use Rattle.space_audit.specs.Marks.{is_set, Marked}
use Rattle.sql_dump.specs.Cells.{CellView, RowOnLeaf}
use Rattle.leaf_salvage.specs.Standing.{reach_of}
use Rattle.salvage_model.specs.declared.loss.Loss.{Loss}
use Rattle.salvage_model.specs.ColumnChecks.{Lost}
use Rattle.salvage_model.specs.Judged.{Judged, IsJudged, AreJudged, lost_by, losses_in, looked_in}

-- there is a mark for each page that is looked at, and these are so many
pub record CanLook {S : Type 0} (g : FileOf S) (source : S) (pages : ℕ) (marks : List Bool) : Type 0 where
  pub told : OfFile g source (λ file. pages ≡ reach_of file)
  pub members : length marks ≡ pages

-- what a call leaves of a source of which it fetches some pages, whatever it tells; each is marked as it is fetched
pub record LooksOver {S : Type 0} (g : FileOf S) (old new : S) (before after : List Bool) (steps steps_now : ℕ)
    : Type 0 where
  pub same : g.content new ≡ g.content old
  pub later : g.faults old ≤ g.faults new
  pub asked : AsksNoMore g old new steps steps_now
  pub members : length after ≡ length before
  pub fewer : unmarked after ≤ unmarked before
  pub cost : steps_now + unmarked after ≤ steps + unmarked before

-- the loss that an answer is
abbrev pub loss_of : {A : Type 0} → Result A Loss → Option Loss
loss_of (Ok a) = None
loss_of (Err loss) = Some loss

-- a page was looked at if it is marked now, and wasn't before
abbrev pub looked_now : List Bool → List Bool → ℕ → List ℕ
looked_now before after n = if is_set after n && not (is_set before n) then n ∷ [] else []

-- the answer of the checks of a chain with these pages, and those that were looked at are marked
pub record AnswersParts (Checks : Option Lost → Type 0) (pages : List ℕ) (before after : List Bool)
    (loss : Option Loss) : Type 0 where
  pub looked : List ℕ
  pub checks : Checks (lost_by loss looked)
  pub whole : loss ≡ None → looked ≡ pages
  pub marked : Marked (is_set before) after looked

-- the verdict on a column was answered, and the pages that were looked at are marked
pub record AnswersCell (file : List ℕ) (missed : ℕ → Bool) (leaf : ℕ) (cell : CellView) (before after : List Bool)
    (loss : Option Loss) : Type 0 where
  pub looked : List ℕ
  pub judged : IsJudged file missed leaf cell (is_set before) (record { loss = loss; looked = looked })
  pub marked : Marked (is_set before) after looked

-- the answer of the checks of all columns of a row, and the pages that were looked at are marked
pub record AnswersRow (file : List ℕ) (missed : ℕ → Bool) (row : RowOnLeaf) (before after : List Bool)
    (losses : List (Option Loss)) : Type 0 where
  pub columns : List Judged
  pub judged : AreJudged file missed row (is_set before) columns
  pub are : losses ≡ losses_in columns
  pub marked : Marked (is_set before) after (looked_in columns)
