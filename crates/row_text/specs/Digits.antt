-- Numbers in a fixed number of digits, and decimals.
use Rattle.std.specs.Prelude.{ℕ, zero, suc, ◌+◌, ◌/◌, ◌%◌, ◌^◌, ◌==◌, if◌then◌else◌, ℤ, pos, unsigned_abs, int_lt, List}
use Rattle.std.specs.Prelude.{[], ◌∷◌, ◌++◌, codes, decimal}

-- the last digits of a number, so many
unfoldable pub last_digits : ℕ → ℕ → List ℕ
last_digits zero n = []
last_digits (suc count) n = (48 + n / 10 ^ count % 10) ∷ last_digits count n

-- a number in two digits, and in four
abbrev pub two_digits : ℕ → List ℕ
two_digits n = (48 + n / 10 % 10) ∷ (48 + n % 10) ∷ []

abbrev pub four_digits : ℕ → List ℕ
four_digits n = two_digits (n / 100) ++ two_digits n

-- a point and the digits behind it, where there are any
abbrev pub behind_point : ℕ → ℕ → List ℕ
behind_point count n = if count == 0 then [] else 46 ∷ last_digits count n

-- what stands before a number
abbrev pub sign_text : ℤ → List ℕ
sign_text units = if int_lt units (pos 0) then codes "-" else []

-- the text of a decimal up to its point, with its sign; `s` of its digits stand behind the point
abbrev pub whole_text : ℕ → ℤ → List ℕ
whole_text s units = sign_text units ++ decimal (unsigned_abs units / 10 ^ s)

-- the text of a decimal
abbrev pub decimal_text : ℕ → ℤ → List ℕ
decimal_text s units = whole_text s units ++ behind_point s (unsigned_abs units)
