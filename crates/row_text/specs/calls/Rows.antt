-- The values of columns, one after another.
use Rattle.std.specs.Prelude.{◌≡◌, ℕ, ◌≤◌, ⊤, List, ◌++◌, length, take, drop, Result, Ok, Err}
use Rattle.std.specs.List.{AllZip}
use Rattle.column_values.specs.declared.value.Value.{Value}
use Rattle.schema_text.specs.declared.table.Column.{Column}
use Rattle.row_text.specs.declared.row.RowError.{RowError}
use Rattle.row_text.specs.declared.row.RowError.TheVariants.{Refused, Memory}
use Rattle.row_text.specs.Line.{FitsColumn, joined_values}
use Rattle.row_text.specs.KeyText.{IsRowIdText, IsColumnsText}

-- the text is that of values of these columns, as far as `at`, and begins with no other values
pub record HasRead (columns : List Column) (text : List ℕ) (values : List Value) (at : ℕ) : Type 0 where
  pub few : length values ≤ length columns
  pub fits : AllZip FitsColumn (take (length values) columns) values
  pub spelled : text ≡ joined_values (take (length values) columns) values ++ drop at text
  pub only : (row : List Value) → IsColumnsText columns row text → take (length values) row ≡ values

-- no values of these columns have the text
abbrev pub IsNoText : List Column → List ℕ → Type 0
IsNoText columns text = (row : List Value) → ¬ (IsColumnsText columns row text)

-- one value more was read, up to there; or no values have the text
abbrev pub ReadsNext : List Column → List ℕ → List Value → Result ℕ RowError → Type 0
ReadsNext columns text values (Ok at) = HasRead columns text values at
ReadsNext columns text values (Err Refused) = IsNoText columns text
ReadsNext columns text values (Err Memory) = ⊤

-- the values of these columns that have the text; none where no values have it
abbrev pub FindsValues : List Column → List ℕ → Result (List Value) RowError → Type 0
FindsValues columns text (Ok values) = IsColumnsText columns values text
FindsValues columns text (Err Refused) = IsNoText columns text
FindsValues columns text (Err Memory) = ⊤

-- the hidden row id that has the text; none where no id has it
abbrev pub FindsRowId : List ℕ → Result (List Value) RowError → Type 0
FindsRowId text (Ok values) = IsRowIdText values text
FindsRowId text (Err Refused) = (values : List Value) → ¬ (IsRowIdText values text)
FindsRowId text (Err Memory) = ⊤
