-- Words, which are the texts of numbers and moments: they hold neither a comma nor a parenthesis.
use Rattle.std.specs.Prelude.{◌≡◌, ◌≢◌, ℕ, Bool, ◌==◌, ◌||◌, ◌^◌, ◌/◌, List, ◌++◌, All, Option, Some, None, decimal}
use Rattle.std.specs.Prelude.{ℤ, pos, ◌+ℤ◌, ◌≤ℤ◌, ◌<ℤ◌}
use Rattle.column_values.specs.declared.kind.ColumnType.{ColumnType}
use Rattle.column_values.specs.declared.value.Value.{Value}
use Rattle.column_values.specs.Spell.{IsValueOf}
use Rattle.row_text.specs.Digits.{behind_point}
use Rattle.row_text.specs.Values.{value_text}

-- whether a value may end before the byte
abbrev pub is_end : ℕ → Bool
is_end byte = (byte == 44) || (byte == 41)

-- no value ends within the text
abbrev pub HasNoEnd : List ℕ → Type 0
HasNoEnd text = All (λ byte. (byte ≢ 44) × (byte ≢ 41)) text

-- the word is that of a value of the type
pub record IsWordOf (kind : ColumnType) (value : Value) (word : List ℕ) : Type 0 where
  pub is_value : IsValueOf kind value
  pub spelled : word ≡ value_text kind value

-- the value of a word; none where it is that of no value
abbrev pub FindsWord : ColumnType → List ℕ → Option Value → Type 0
FindsWord kind word (Some value) = IsWordOf kind value word
FindsWord kind word None = (value : Value) → ¬ (IsWordOf kind value word)

-- the number fits 64 bits
abbrev pub FitsLong : ℤ → Type 0
FitsLong z = (pos 0 ≤ℤ (z +ℤ pos (2 ^ 63))) × (z <ℤ pos (2 ^ 63))

-- a number of units without its sign, `s` of whose digits stand behind the point
abbrev pub unsigned_text : ℕ → ℕ → List ℕ
unsigned_text s n = decimal (n / 10 ^ s) ++ behind_point s n
