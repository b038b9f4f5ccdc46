-- The bytes of decimals (decimal).
use Rattle.std.specs.Prelude.{◌≡◌, ◌≢◌, ℕ, suc, ◌-◌, ◌/◌, ◌%◌, ◌^◌, ◌<◌, ℤ, pos, negsuc, nat_abs, List, [], ◌∷◌, ◌++◌}
use Rattle.std.specs.Prelude.{map, sum, bit_xor, Option, Some, None}
use Rattle.page_source.specs.Pages.{be_bytes}
use Rattle.column_values.specs.Lengths.{group_length, decimal_groups}

-- a number whose digits are cut into these groups, each as a number of its own
abbrev pub grouped : List ℕ → ℕ → List ℕ
grouped [] n = []
grouped (digits ∷ groups) n =
    be_bytes (group_length digits) (n / 10 ^ sum groups) ++ grouped groups (n % 10 ^ sum groups)

-- all bits turned, and the top bit turned
abbrev pub complemented : List ℕ → List ℕ
complemented bytes = map (λ b. 255 - b) bytes

abbrev pub with_top_turned : List ℕ → List ℕ
with_top_turned [] = []
with_top_turned (b ∷ bytes) = bit_xor b 128 ∷ bytes

-- the digits of a number; those of a negative one complemented
abbrev pub signed_groups : List ℕ → ℤ → List ℕ
signed_groups groups (pos n) = grouped groups n
signed_groups groups (negsuc n) = complemented (grouped groups (suc n))

-- the bytes of a decimal of `p` digits, `s` of them behind the point; `units` counts its last digit
unfoldable pub decimal_bytes : ℕ → ℕ → ℤ → List ℕ
decimal_bytes p s units = with_top_turned (signed_groups (decimal_groups p s) units)

-- the number has so many digits at the most, and these bytes
pub record SpellsDecimal (p s : ℕ) (units : ℤ) (bytes : List ℕ) : Type 0 where
  pub few : nat_abs units < 10 ^ p
  pub digits : bytes ≡ decimal_bytes p s units

-- the number that groups of digits have; none where they are those of no number
abbrev pub FindsUnits : ℕ → ℕ → List ℕ → Option ℕ → Type 0
FindsUnits p s bytes (Some n) = (n < 10 ^ p) × (bytes ≡ grouped (decimal_groups p s) n)
FindsUnits p s bytes None = (n : ℕ) → n < 10 ^ p → bytes ≢ grouped (decimal_groups p s) n

-- the number that bytes spell; none where they spell none
abbrev pub FindsDecimal : ℕ → ℕ → List ℕ → Option ℤ → Type 0
FindsDecimal p s bytes (Some units) = SpellsDecimal p s units bytes
FindsDecimal p s bytes None = (units : ℤ) → ¬ (SpellsDecimal p s units bytes)
