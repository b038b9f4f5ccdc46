-- The text of a key: the values of the key columns in key order, or the hidden row id.
use Rattle.std.specs.Prelude.{◌≡◌, ℕ, ◌^◌, ◌<◌, ◌==◌, if◌then◌else◌, List, [], ◌∷◌, length, map, zip, decimal, Option}
use Rattle.std.specs.Prelude.{Some, MatchBool}
use Rattle.std.specs.List.{AllZip}
use Rattle.page_source.specs.Pages.{be_bytes}
use Rattle.column_values.specs.declared.value.Value.{Value}
use Rattle.column_values.specs.declared.value.Value.TheVariants.{Unsigned}
use Rattle.column_values.specs.Order.{Key}
use Rattle.column_values.specs.Spell.{spelling_of}
use Rattle.schema_text.specs.declared.table.Column.{Column}
use Rattle.schema_text.specs.TableDef.{TableDef, index_columns, clustered}
use Rattle.schema_text.specs.IndexFields.{clustered_positions}
use Rattle.row_text.specs.Line.{FitsColumn, joined_values}

-- the columns of the key; none where rows have a hidden id
abbrev pub key_columns : TableDef → List Column
key_columns table = index_columns table (clustered table)

-- the row id has six bytes
pub record IsRowIdText (values : List Value) (text : List ℕ) : Type 0 where
  pub id : ℕ
  pub below : id < 2 ^ 48
  pub only : values ≡ Unsigned id ∷ []
  pub spelled : text ≡ decimal id

-- each value is one of its column
pub record IsColumnsText (columns : List Column) (values : List Value) (text : List ℕ) : Type 0 where
  pub fits : AllZip FitsColumn columns values
  pub spelled : text ≡ joined_values columns values

-- the text is that of a key with these values
abbrev pub IsKeyTextOf : TableDef → List Value → List ℕ → Type 0
IsKeyTextOf table values text =
    MatchBool (length (clustered_positions table) == 0) (IsRowIdText values text)
    (IsColumnsText (key_columns table) values text)

-- the fields of the key
abbrev pub id_cell : Value → Option (List ℕ)
id_cell (Unsigned id) = Some (be_bytes 6 id)
id_cell _ = Some []

abbrev pub column_cell : Column × Value → Option (List ℕ)
column_cell pair = Some (spelling_of (pair.0).kind pair.1)

-- the key of these values
unfoldable pub key_of_values : TableDef → List Value → Key
key_of_values table values =
    if length (clustered_positions table) == 0 then map id_cell values
    else map column_cell (zip (key_columns table) values)
