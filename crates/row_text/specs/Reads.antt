-- What is read of a line, and of the text of a key.
use Rattle.std.specs.Prelude.{ℕ, ⊤, List, Result, Ok, Err}
use Rattle.column_values.specs.declared.value.Value.{Value}
use Rattle.schema_text.specs.TableDef.{TableDef}
use Rattle.row_text.specs.declared.row.RowError.{RowError}
use Rattle.row_text.specs.declared.row.RowError.TheVariants.{Refused, Memory}
use Rattle.row_text.specs.Line.{IsLineOf}
use Rattle.row_text.specs.KeyText.{IsKeyTextOf}

-- the row that has the line; none where no row has it
abbrev pub FindsRow : TableDef → List ℕ → Result (List Value) RowError → Type 0
FindsRow table line (Ok row) = IsLineOf table row line
FindsRow table line (Err Refused) = (row : List Value) → ¬ (IsLineOf table row line)
FindsRow table line (Err Memory) = ⊤

-- the values of the key that has the text; none where no key has it
abbrev pub FindsKey : TableDef → List ℕ → Result (List Value) RowError → Type 0
FindsKey table text (Ok values) = IsKeyTextOf table values text
FindsKey table text (Err Refused) = (values : List Value) → ¬ (IsKeyTextOf table values text)
FindsKey table text (Err Memory) = ⊤
