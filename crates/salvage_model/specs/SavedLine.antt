-- The line of a row of which some values may be lost: then it is a comment, with the word DEFAULT in their place.
use Rattle.std.specs.Prelude.{ℕ, is_some, if◌then◌else◌, List, [], ◌++◌, map, zip, codes, Option, Some, None}
use Rattle.std.specs.List.{join_with_byte, list_all}
use Rattle.column_values.specs.declared.kind.ColumnType.{ColumnType}
use Rattle.column_values.specs.declared.value.Value.{Value}
use Rattle.schema_text.specs.declared.table.Column.{Column}
use Rattle.schema_text.specs.TableDef.{TableDef}
use Rattle.row_text.specs.Values.{value_text}
use Rattle.row_text.specs.Line.{comma}
use Rattle.row_text.specs.Writer.{line_open, line_close}

-- the text of a value, or the word in its place
abbrev pub saved_text : ColumnType → Option Value → List ℕ
saved_text kind (Some value) = value_text kind value
saved_text kind None = codes "DEFAULT"

-- the texts of the values of all columns, joined by commas
abbrev pub saved_values : List Column → List (Option Value) → List ℕ
saved_values columns row =
    join_with_byte comma (map (λ (pair : Column × Option Value). saved_text (pair.0).kind pair.1) (zip columns row))

-- what stands before the line of a row
abbrev pub comment_open : List (Option Value) → List ℕ
comment_open row = if list_all is_some row then [] else codes "-- "

-- the line, with its LF
unfoldable pub saved_line : TableDef → List (Option Value) → List ℕ
saved_line table row = comment_open row ++ line_open table ++ saved_values table.columns row ++ line_close
