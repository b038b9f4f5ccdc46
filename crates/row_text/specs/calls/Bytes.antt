-- Bytes in hexadecimal digits.
use Rattle.std.specs.Prelude.{◌≡◌, ◌≢◌, ℕ, ◌<◌, ◌%◌, slice_index, Bool, true, false, List, [], ◌∷◌, ◌++◌}
use Rattle.std.specs.List.{range_with_len}
use Rattle.hex.specs.Hex.{encode_lower, encode_with, lower_digits}
use Rattle.page_source.specs.Pages.{AreBytes}
use Rattle.column_values.specs.declared.kind.ColumnType.{ColumnType}
use Rattle.column_values.specs.declared.kind.ColumnType.TheVariants.{Binary}

-- the two halves of each byte, the high one first; and the digit of a half
abbrev pub halves : List ℕ → List ℕ
halves bytes = encode_with (range_with_len 0 16) bytes

abbrev pub half_digit : ℕ → ℕ
half_digit half = slice_index lower_digits (half % 16)

-- bytes of fixed length
abbrev pub is_binary : ColumnType → Bool
is_binary (Binary n) = true
is_binary _ = false

-- no digits of a byte stand at the head of the text
abbrev pub BeginsNoByte : List ℕ → Type 0
BeginsNoByte text = (byte : ℕ) (rest : List ℕ) → byte < 256 → text ≢ encode_lower (byte ∷ []) ++ rest

-- a list grew by the bytes whose digits stand at the head of the text, and this is the rest
pub record TakesBytes (old new text rest : List ℕ) : Type 0 where
  pub bytes : List ℕ
  pub are : AreBytes bytes
  pub grown : new ≡ old ++ bytes
  pub spelled : text ≡ encode_lower bytes ++ rest

-- these bytes stand in digits at the head of the text, and none behind them
pub record AreLeadingBytes (bytes text rest : List ℕ) : Type 0 where
  pub are : AreBytes bytes
  pub spelled : text ≡ encode_lower bytes ++ rest
  pub all : BeginsNoByte rest
