-- The value that a text begins with.
use Rattle.std.specs.Prelude.{◌≡◌, ℕ, ⊤, ◌⊎◌, List, [], ◌∷◌, ◌++◌, drop, Result, Ok, Err}
use Rattle.column_values.specs.declared.kind.ColumnType.{ColumnType}
use Rattle.column_values.specs.declared.value.Value.{Value}
use Rattle.column_values.specs.Spell.{IsValueOf}
use Rattle.schema_text.specs.declared.table.Column.{Column}
use Rattle.row_text.specs.declared.row.RowError.{RowError}
use Rattle.row_text.specs.declared.row.RowError.TheVariants.{Refused, Memory}
use Rattle.row_text.specs.Values.{value_text}
use Rattle.row_text.specs.Line.{FitsColumn}

-- behind a value stands a comma, a parenthesis or nothing
abbrev pub EndsValue : List ℕ → Type 0
EndsValue [] = ⊤
EndsValue (byte ∷ rest) = (byte ≡ 44) ⊎ (byte ≡ 41)

-- the text begins with that of a value of the type, and this is the rest
pub record BeginsWith (kind : ColumnType) (value : Value) (text rest : List ℕ) : Type 0 where
  pub is_value : IsValueOf kind value
  pub spelled : text ≡ value_text kind value ++ rest
  pub ends : EndsValue rest

-- the text begins with that of a value of the column, which may be null, and this is the rest
pub record BeginsColumn (column : Column) (value : Value) (text rest : List ℕ) : Type 0 where
  pub fits : FitsColumn column value
  pub spelled : text ≡ value_text column.kind value ++ rest
  pub ends : EndsValue rest

-- the value that a text begins with, and how many bytes its text has; none where it begins with no value
abbrev pub FindsValue : ColumnType → List ℕ → Result (Value × ℕ) RowError → Type 0
FindsValue kind text (Ok found) = BeginsWith kind found.0 text (drop found.1 text)
FindsValue kind text (Err Refused) = (value : Value) (rest : List ℕ) → ¬ (BeginsWith kind value text rest)
FindsValue kind text (Err Memory) = ⊤

abbrev pub FindsColumn : Column → List ℕ → Result (Value × ℕ) RowError → Type 0
FindsColumn column text (Ok found) = BeginsColumn column found.0 text (drop found.1 text)
FindsColumn column text (Err Refused) = (value : Value) (rest : List ℕ) → ¬ (BeginsColumn column value text rest)
FindsColumn column text (Err Memory) = ⊤
