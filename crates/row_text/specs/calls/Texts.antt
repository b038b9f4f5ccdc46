-- Texts in quotes.
use Rattle.std.specs.Prelude.{◌≡◌, ◌≢◌, ℕ, ◌≤◌, ◌==◌, if◌then◌else◌, Bool, true, ⊤, List, ◌++◌, length, take, drop}
use Rattle.std.specs.Prelude.{Result, Ok, Err}
use Rattle.column_values.specs.declared.kind.ColumnType.{ColumnType}
use Rattle.column_values.specs.declared.kind.ColumnType.TheVariants.{Char}
use Rattle.row_text.specs.declared.row.RowError.{RowError}
use Rattle.row_text.specs.declared.row.RowError.TheVariants.{Refused, Memory}
use Rattle.row_text.specs.Values.{escaped, escaped_text, quoted}
use Rattle.row_text.specs.Writer.{is_text}

-- the types whose values are texts in quotes
abbrev pub is_quoted : ColumnType → Bool
is_quoted (Char n) = true
is_quoted kind = is_text kind

-- the byte that a letter stands for behind a backslash, and 255 for none
abbrev pub byte_of : ℕ → ℕ
byte_of letter =
    if letter == 48 then 0 else (if letter == 110 then 10 else (if letter == 114 then 13 else
    (if letter == 92 then 92 else (if letter == 39 then 39 else (if letter == 34 then 34 else
    (if letter == 90 then 26 else 255))))))

-- the text in quotes at the head, and how many bytes it takes there; none where none stands there
abbrev pub FindsText : List ℕ → Result (List ℕ × ℕ) RowError → Type 0
FindsText text (Ok found) = text ≡ quoted (escaped_text found.0) ++ drop found.1 text
FindsText text (Err Refused) = (inside rest : List ℕ) → text ≢ quoted (escaped_text inside) ++ rest
FindsText text (Err Memory) = ⊤

-- a text begins with this byte, which takes so many bytes there
pub record LeadsByte (byte size : ℕ) (text : List ℕ) : Type 0 where
  pub spelled : text ≡ escaped byte ++ drop size text
  pub some : 1 ≤ size
  pub within : size ≤ length text

-- no byte of a text stands at the head
abbrev pub LeadsNoByte : List ℕ → Type 0
LeadsNoByte text = (byte : ℕ) (rest : List ℕ) → text ≢ escaped byte ++ rest

-- the first bytes of the room stand at the head of the text, up to there
pub record IsWritten (text room : List ℕ) (n at : ℕ) : Type 0 where
  pub same : text ≡ escaped_text (take n room) ++ drop at text
  pub wrote : n ≤ length room
  pub read : at ≤ length text

-- a list grew by the bytes that a text begins with, and this is the rest
pub record TakesText (old new text rest : List ℕ) : Type 0 where
  pub bytes : List ℕ
  pub grown : new ≡ old ++ bytes
  pub spelled : text ≡ escaped_text bytes ++ rest
