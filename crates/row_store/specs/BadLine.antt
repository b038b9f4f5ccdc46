-- Which line of a rows text is refused, and why.
use Rattle.std.specs.Prelude.{◌≡◌, ◌≢◌, ℕ, zero, suc, ◌+◌, ◌-◌, ◌<◌, ◌≤◌, ⊤, ◌==◌, if◌then◌else◌, List, [], length}
use Rattle.std.specs.Prelude.{take, sum_by}
use Rattle.std.specs.Prelude.{slice_index_or, IsSome, Option, None}
use Rattle.std.specs.List.{slice_split}
use Rattle.page_source.specs.Verdict.{Check, Then, Each}
use Rattle.column_values.specs.declared.value.Value.{Value}
use Rattle.column_values.specs.Order.{IsBelow}
use Rattle.compact_record.specs.Reading.{key_kinds}
use Rattle.schema_text.specs.TableDef.{TableDef}
use Rattle.schema_text.specs.Grammar.{line_feed}
use Rattle.schema_text.specs.IndexFields.{leaf_fields, clustered_positions}
use Rattle.row_text.specs.Line.{IsLineOf}
use Rattle.row_store.specs.declared.stop.RowsWhy.{RowsWhy}
use Rattle.row_store.specs.declared.stop.RowsWhy.TheVariants.{Long, Input, Line, Order, Big}
use Rattle.row_layout.specs.StoredRow.{fitted_row}
use Rattle.row_layout.specs.RowKeys.{column_key}

-- a line, counted from 1, and why it is refused
pub record BadRow : Type 0 where
  pub line : ℕ
  pub why : RowsWhy

-- what stands between the LFs, and the lines: a last piece that is empty is none
abbrev pub pieces_of : List ℕ → List (List ℕ)
pieces_of text = slice_split (λ b. b == line_feed) text

abbrev pub last_piece : List ℕ → List ℕ
last_piece text = slice_index_or (pieces_of text) (length (pieces_of text) - 1) []

unfoldable pub row_lines : List ℕ → List (List ℕ)
row_lines text =
    if length (last_piece text) == 0 then take (length (pieces_of text) - 1) (pieces_of text) else pieces_of text

-- whether line k has its LF, and how many bytes it has with it
abbrev pub HasFeed : List ℕ → ℕ → Type 0
HasFeed text k = k + 1 < length (pieces_of text)

abbrev pub line_at : List ℕ → ℕ → List ℕ
line_at text k = slice_index_or (row_lines text) k []

abbrev pub feed_length : List ℕ → ℕ → ℕ
feed_length text k = if k + 1 == length (pieces_of text) then 0 else 1

abbrev pub line_length : List ℕ → ℕ → ℕ
line_length text k = length (line_at text k) + feed_length text k

-- where line k begins, and where it ends
abbrev pub line_start : List ℕ → ℕ → ℕ
line_start text k = sum_by (λ (line : List ℕ). length line + 1) (take k (row_lines text))

abbrev pub line_end : List ℕ → ℕ → ℕ
line_end text k = line_start text k + line_length text k

-- the line is that of a row, and ends with LF
pub record IsWholeLine (table : TableDef) (text : List ℕ) (k : ℕ) : Type 0 where
  pub feed : HasFeed text k
  pub row : List Value
  pub line : IsLineOf table row (line_at text k)

-- the first of two rows has the lower clustered key
abbrev pub IsKeyBelow : TableDef → List Value → List Value → Type 0
IsKeyBelow table a b = IsBelow (key_kinds (leaf_fields table 0)) (column_key table a) (column_key table b)

-- the key of line k is greater than that of the line before; hidden row ids rise by themselves
abbrev pub IsInOrder : TableDef → List ℕ → ℕ → Type 0
IsInOrder table text zero = ⊤
IsInOrder table text (suc k) =
    length (clustered_positions table) ≢ 0
    → (a b : List Value) → IsLineOf table a (line_at text k) → IsLineOf table b (line_at text (suc k))
    → IsKeyBelow table a b

-- the record of line k fits
abbrev pub HasFittedRow : TableDef → List ℕ → ℕ → Type 0
HasFittedRow table text k = (row : List Value) → IsLineOf table row (line_at text k) → IsSome (fitted_row table k row)

-- a check of line k, counted from 0
abbrev pub RefusesRow : ℕ → RowsWhy → Type 0 → Option BadRow → Type 0
RefusesRow k why condition = Check (record { line = k + 1; why = why }) condition

-- the checks of line k, counted from 0
unfoldable pub RowChecks : TableDef → List ℕ → ℕ → Option BadRow → Type 0
RowChecks table text k =
    Then (RefusesRow k Long (line_length text k ≤ 16777216))
    (Then (RefusesRow k Input (line_end text k ≤ 4294967296))
    (Then (RefusesRow k Line (IsWholeLine table text k))
    (Then (RefusesRow k Order (IsInOrder table text k))
    (RefusesRow k Big (HasFittedRow table text k)))))

-- the first bad line of a rows text
abbrev pub RowsChecks : TableDef → List ℕ → Option BadRow → Type 0
RowsChecks table text = Each (length (row_lines text)) (RowChecks table text)

-- the rows of a text without a bad line
pub record AreRowsOf (table : TableDef) (text : List ℕ) (rows : List (List Value)) : Type 0 where
  pub good : RowsChecks table text None
  pub count : length rows ≡ length (row_lines text)
  pub each : (k : ℕ) → k < length rows → IsLineOf table (slice_index_or rows k []) (line_at text k)
