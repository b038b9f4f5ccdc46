-- Laws of the definitions, each the contract of a function in the module of laws.
use Rattle.std.specs.Prelude.{◌≡◌, ℕ, Bool, true, List, map, Option, Some}
use Rattle.column_values.specs.declared.value.Value.{Value}
use Rattle.schema_text.specs.TableDef.{TableDef}
use Rattle.row_text.specs.Line.{line_of}
use Rattle.sql_dump.specs.Cells.{RowView, RowOnLeaf, ReadsRow}
use Rattle.salvage_model.specs.declared.loss.Loss.{Loss}
use Rattle.salvage_model.specs.Judged.{Judged, AreJudged}
use Rattle.salvage_model.specs.SavedRow.{SavesRow, is_whole_row}
use Rattle.salvage_model.specs.SavedLine.{saved_line}

-- if nothing is lost, the line is that of a row
abbrev pub WholeLinesAreLines : Type 0
WholeLinesAreLines = (table : TableDef) (row : List Value) → saved_line table (map Some row) ≡ line_of table row

-- no value of a row is lost, and the values that are saved are those that are read of it
pub record IsReadWhole (file : List ℕ) (row : RowView) (saved : List (Option Value)) : Type 0 where
  pub row_values : List Value
  pub same : saved ≡ map Some row_values
  pub reads : ReadsRow file row row_values

abbrev pub WholeRowsAreRead : Type 0
WholeRowsAreRead =
    (file : List ℕ) (row : RowView) (losses : List (Option Loss)) (saved : List (Option Value))
    → is_whole_row losses ≡ true → SavesRow file row losses saved → IsReadWhole file row saved

-- the columns of a row have at most one list of verdicts
abbrev pub HasOneJudgement : Type 0
HasOneJudgement =
    (file : List ℕ) (missed : ℕ → Bool) (row : RowOnLeaf) (taken : ℕ → Bool) (a b : List Judged)
    → AreJudged file missed row taken a → AreJudged file missed row taken b → a ≡ b
