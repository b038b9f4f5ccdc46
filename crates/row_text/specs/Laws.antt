-- What a writer adds, piece by piece, is the line of the row, in whatever parts a long value comes. A row has one
-- line, and a line is that of one row; a key has one text, and a text is that of one key.
use Rattle.std.specs.Prelude.{◌≡◌, ℕ, ◌+◌, ◌<◌, true, List, [], ◌++◌, length, take, flat_map, slice_index_or}
use Rattle.std.specs.List.{join_with_byte}
use Rattle.column_values.specs.declared.kind.ColumnType.{ColumnType}
use Rattle.column_values.specs.declared.value.Value.{Value}
use Rattle.column_values.specs.declared.value.Value.TheVariants.{Null}
use Rattle.column_values.specs.Spell.{Spell}
use Rattle.schema_text.specs.TableDef.{TableDef, column_at}
use Rattle.row_text.specs.Values.{value_text}
use Rattle.schema_text.specs.Grammar.{IsTable}
use Rattle.row_text.specs.Line.{IsTableRow, comma, texts_of, line_of, IsLineOf}
use Rattle.row_text.specs.KeyText.{IsKeyTextOf}
use Rattle.row_text.specs.Writer.{line_open, line_close, before_value, is_long, long_open, long_part, long_close}

-- the line of a row up to its first k values
abbrev pub line_up_to : TableDef → List Value → ℕ → List ℕ
line_up_to table row k = line_open table ++ join_with_byte comma (take k (texts_of table.columns row))

-- value k of a row, as it stands in the line
abbrev pub text_at : TableDef → List Value → ℕ → List ℕ
text_at table row k = value_text (column_at table k).kind (slice_index_or row k Null)

-- the line of a row up to no value is what the writer begins with
abbrev pub LineOpens : Type 0
LineOpens = (table : TableDef) (row : List Value) → line_up_to table row 0 ≡ line_open table

-- the line of a row up to one value more is what stands before it, and its text
abbrev pub LineGoesOn : Type 0
LineGoesOn =
    (table : TableDef) (row : List Value) (k : ℕ) → IsTableRow table row → k < length row
    → line_up_to table row (k + 1) ≡ line_up_to table row k ++ (before_value k ++ text_at table row k)

-- the line of a row up to its last value, and with its close, is the whole line
abbrev pub LineCloses : Type 0
LineCloses =
    (table : TableDef) (row : List Value) → IsTableRow table row
    → line_up_to table row (length row) ++ line_close ≡ line_of table row

-- no bytes are no text, and two parts of a long value are as one
abbrev pub NoPart : Type 0
NoPart = (kind : ColumnType) → long_part kind [] ≡ []

abbrev pub PartsJoin : Type 0
PartsJoin = (kind : ColumnType) (a b : List ℕ) → long_part kind (a ++ b) ≡ long_part kind a ++ long_part kind b

-- the bytes of a long value, with what stands before and behind them, are the value that they spell
abbrev pub in_one_part : ColumnType → List ℕ → List ℕ
in_one_part kind bytes = long_open kind (length bytes) ++ (long_part kind bytes ++ long_close kind)

abbrev pub PartIsValue : Type 0
PartIsValue =
    (kind : ColumnType) (value : Value) (bytes : List ℕ) → is_long kind ≡ true → Spell kind value bytes
    → in_one_part kind bytes ≡ value_text kind value

-- the bytes of a long value in whatever parts, with what stands before and behind them, are the value that they spell
abbrev pub all_bytes : List (List ℕ) → List ℕ
all_bytes parts = flat_map (λ part. part) parts

abbrev pub in_parts : ColumnType → List (List ℕ) → List ℕ
in_parts kind parts =
    long_open kind (length (all_bytes parts)) ++ (flat_map (long_part kind) parts ++ long_close kind)

abbrev pub PartsAreValue : Type 0
PartsAreValue =
    (kind : ColumnType) (value : Value) (parts : List (List ℕ)) → is_long kind ≡ true
    → Spell kind value (all_bytes parts) → in_parts kind parts ≡ value_text kind value

-- a row has one line
abbrev pub HasOneLine : Type 0
HasOneLine = (table : TableDef) (row : List Value) (a b : List ℕ) → IsLineOf table row a → IsLineOf table row b → a ≡ b

-- a line is that of one row at the most
abbrev pub HasOneRow : Type 0
HasOneRow =
    (table : TableDef) (v w : List Value) (line : List ℕ) → IsTable table → IsLineOf table v line
    → IsLineOf table w line → v ≡ w

-- a line with its LF begins no other one
abbrev pub BeginsNoOther : Type 0
BeginsNoOther =
    (table : TableDef) (v w : List Value) (x y : List ℕ) → IsTable table → IsTableRow table v → IsTableRow table w
    → line_of table v ++ x ≡ line_of table w ++ y → line_of table v ≡ line_of table w

-- a key has one text
abbrev pub HasOneKeyText : Type 0
HasOneKeyText =
    (table : TableDef) (values : List Value) (a b : List ℕ) → IsKeyTextOf table values a → IsKeyTextOf table values b
    → a ≡ b

-- a text is that of one key at the most
abbrev pub HasOneKey : Type 0
HasOneKey =
    (table : TableDef) (v w : List Value) (text : List ℕ) → IsTable table → IsKeyTextOf table v text
    → IsKeyTextOf table w text → v ≡ w
