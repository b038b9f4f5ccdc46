-- What a dump writes over any file, whether it tells its bytes or not: the lines of some rows of its table.
use Rattle.std.specs.Prelude.{◌≡◌, ℕ, ⊤, Bool, true, false, List, ◌++◌, length, All, Option, Result, Ok, Err}
use Rattle.page_source.specs.Objects.{GrowsBy}
use Rattle.column_values.specs.declared.kind.ColumnType.{ColumnType}
use Rattle.column_values.specs.declared.value.Value.{Value}
use Rattle.schema_text.specs.TableDef.{TableDef}
use Rattle.row_text.specs.Line.{line_of, text_of}
use Rattle.row_text.specs.Values.{value_text}
use Rattle.row_text.specs.Writer.{before_value, long_part}
use Rattle.sql_dump.specs.declared.stop.WriteStop.{WriteStop}
use Rattle.sql_dump.specs.Buffer.{IsSent}

-- there is a value for each column
abbrev pub IsFull : TableDef → List Value → Type 0
IsFull table row = length row ≡ length table.columns

-- the text of a sink grew
pub record Grows (old new : Option (List ℕ)) : Type 0 where
  pub text : List ℕ
  pub grown : GrowsBy old new text

-- the text grew by so many bytes of a long value, by a value of this type, or by the line of a row; by some text if
-- the writing was ended
abbrev pub PutsSomeBytes : {A : Type 0} → ColumnType → ℕ → Result A WriteStop → Option (List ℕ) → Option (List ℕ) →
    Type 0
PutsSomeBytes kind size (Ok a) old new =
    (bytes : List ℕ) × (length bytes ≡ size) × GrowsBy old new (long_part kind bytes)
PutsSomeBytes kind size (Err stop) old new = Grows old new

abbrev pub PutsSomeValue : {A : Type 0} → ColumnType → ℕ → Result A WriteStop → Option (List ℕ) → Option (List ℕ) →
    Type 0
PutsSomeValue kind came (Ok a) old new = (value : Value) × GrowsBy old new (before_value came ++ value_text kind value)
PutsSomeValue kind came (Err stop) old new = Grows old new

abbrev pub PutsSomeRow : {A : Type 0} → TableDef → Result A WriteStop → Option (List ℕ) → Option (List ℕ) → Type 0
PutsSomeRow table (Ok a) old new = (row : List Value) × IsFull table row × GrowsBy old new (line_of table row)
PutsSomeRow table (Err stop) old new = Grows old new

-- the line of a row was kept in the buffer or not
abbrev pub KeepsSomeRow : TableDef → Result Bool WriteStop → List ℕ → List ℕ → Type 0
KeepsSomeRow table (Ok true) held now = (row : List Value) × IsFull table row × (now ≡ held ++ line_of table row)
KeepsSomeRow table (Ok false) held now = now ≡ held
KeepsSomeRow table (Err stop) held now = ⊤

-- the line of a row was put after what the buffer held
pub record MovesSomeRow (table : TableDef) (old new : Option (List ℕ)) (held now : List ℕ) : Type 0 where
  pub row : List Value
  pub full : IsFull table row
  pub sent : IsSent old new (held ++ line_of table row) now

-- the text of a sink grew by the lines of so many rows
pub record GrowsByRows (table : TableDef) (old new : Option (List ℕ)) (count : ℕ) : Type 0 where
  pub rows : List (List Value)
  pub number : length rows ≡ count
  pub full : All (IsFull table) rows
  pub grown : GrowsBy old new (text_of table rows)
