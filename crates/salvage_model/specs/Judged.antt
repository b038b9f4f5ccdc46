-- The verdicts on the columns of a record, in the order of the table, and the pages that were looked at for each.
use Rattle.std.specs.Prelude.{◌≡◌, ℕ, Bool, List, length, map, flat_map, Option, Some, None}
use Rattle.space_audit.specs.Marks.{seen}
use Rattle.sql_dump.specs.Cells.{CellView, RowOnLeaf, cell_of_column, pages_of_cell}
use Rattle.salvage_model.specs.declared.loss.Loss.{Loss}
use Rattle.salvage_model.specs.Follow.{Follow}
use Rattle.salvage_model.specs.ColumnChecks.{Lost, CellChecks}

-- what a column is lost by, if it is, and the pages that were looked at for it
pub record Judged : Type 0 where
  pub loss : Option Loss
  pub looked : List ℕ

-- the verdict on a column as an answer of the checks
abbrev pub lost_by : Option Loss → List ℕ → Option Lost
lost_by None looked = None
lost_by (Some loss) looked = Some (record { loss = loss; looked = looked })

-- the verdict on a column; for a whole value all of its pages were looked at
pub record IsJudged (file : List ℕ) (missed : ℕ → Bool) (leaf : ℕ) (cell : CellView) (taken : ℕ → Bool)
    (judged : Judged) : Type 0 where
  pub checks : CellChecks file missed leaf cell taken (lost_by judged.loss judged.looked)
  pub whole : judged.loss ≡ None → judged.looked ≡ pages_of_cell file cell

-- the losses of a record, and all pages that were looked at for it
abbrev pub losses_in : List Judged → List (Option Loss)
losses_in columns = map (λ (j : Judged). j.loss) columns

abbrev pub looked_in : List Judged → List ℕ
looked_in columns = flat_map (λ (j : Judged). j.looked) columns

-- the verdicts on all columns of a row, each after the columns before it
pub record AreJudged (file : List ℕ) (missed : ℕ → Bool) (row : RowOnLeaf) (taken : ℕ → Bool) (columns : List Judged)
    : Type 0 where
  pub all : length columns ≡ length row.row.table.columns
  pub each : Follow (λ before c judged.
      IsJudged file missed row.leaf (cell_of_column row.row c) (seen taken (looked_in before)) judged) columns
