-- A line that is written in pieces.
use Rattle.std.specs.Prelude.{ℕ, suc, Bool, true, false, ◌==◌, if◌then◌else◌, List, [], ◌∷◌, ◌++◌, codes}
use Rattle.hex.specs.Hex.{encode_lower}
use Rattle.column_values.specs.declared.kind.ColumnType.{ColumnType}
use Rattle.column_values.specs.declared.kind.ColumnType.TheVariants.{Varchar, Varbinary, Text, Blob, Utf8Varchar}
use Rattle.column_values.specs.declared.kind.ColumnType.TheVariants.{Utf8Text}
use Rattle.schema_text.specs.TableDef.{TableDef}
use Rattle.row_text.specs.Values.{quoted, escaped_text}
use Rattle.row_text.specs.Line.{comma}

-- how many values came, and how many bytes a long value still lacks
pub record Writer : Type 0 where
  pub came : ℕ
  pub lacks : ℕ

-- what stands before the values of a line, and what stands behind them
abbrev pub line_open : TableDef → List ℕ
line_open table = codes "INSERT INTO `" ++ table.table ++ codes "` VALUES ("

abbrev pub line_close : List ℕ
line_close = codes ");\n"

-- one value more was begun
abbrev pub with_value : Writer → ℕ → Writer
with_value writer lacks = record { came = suc writer.came; lacks = lacks }

-- what stands before a value
abbrev pub before_value : ℕ → List ℕ
before_value came = if came == 0 then [] else comma ∷ []

-- a value that may be written in parts
abbrev pub is_long : ColumnType → Bool
is_long (Varchar n) = true
is_long (Varbinary n) = true
is_long (Text n) = true
is_long (Blob n) = true
is_long (Utf8Varchar n) = true
is_long (Utf8Text n) = true
is_long _ = false

-- a value that may be written in parts, and whose bytes are a text
abbrev pub is_text : ColumnType → Bool
is_text (Varchar n) = true
is_text (Text n) = true
is_text (Utf8Varchar n) = true
is_text (Utf8Text n) = true
is_text _ = false

-- the pieces of a long value: what stands before its bytes, some bytes of it, and what stands behind
abbrev pub long_open : ColumnType → ℕ → List ℕ
long_open kind length = if is_text kind then codes "'" else (if length == 0 then quoted [] else codes "0x")

abbrev pub long_part : ColumnType → List ℕ → List ℕ
long_part kind bytes = if is_text kind then escaped_text bytes else encode_lower bytes

abbrev pub long_close : ColumnType → List ℕ
long_close kind = if is_text kind then codes "'" else []
