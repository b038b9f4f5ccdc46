-- Which decimals bytes spell.
use Rattle.std.proofs.Common.{◌≡◌, ◌≢◌, ℕ, zero, suc, ◌+◌, ◌-◌, ◌*◌, ◌^◌, ◌<◌, ◌≤◌, List, [], ◌∷◌, length, slice_index}
use Rattle.std.proofs.Common.{sum, ltb, refl, sym, ap, ◌∙◌, subst, inl, inr, arith}
use Rattle.std.specs.Prelude.{Some, None, false, ℤ, pos, negsuc, ◌-ℤ◌, nat_abs, bit_xor, if◌then◌else◌}
use Rattle.std.proofs.lemmas.Bool.{cases_lt}
use Rattle.std.proofs.lemmas.Bool.Decides.{nat_tests}
use Rattle.std.proofs.lemmas.Int.{ints}
use Rattle.std.specs.Int.Signed.{lt_z}
use Rattle.std.proofs.lemmas.List.Elements.{All-nil, All-cons, All-head, All-tail}
use Rattle.page_source.specs.Pages.{AreBytes}
use Rattle.column_values.specs.declared.kind.ColumnType.TheVariants as types
use Rattle.column_values.specs.declared.value.Value.{Value}
use Rattle.column_values.specs.declared.value.Value.TheVariants as values
use Rattle.column_values.specs.Types.{IsColumnType}
use Rattle.column_values.specs.Lengths.{decimal_groups, decimal_length}
use Rattle.column_values.specs.Decimals.{grouped, complemented, with_top_turned, signed_groups, decimal_bytes}
use Rattle.column_values.specs.Decimals.{SpellsDecimal, FindsUnits}
use Rattle.column_values.specs.Spell.{Spell, IsSpelled}
use Rattle.column_values.proofs.DecimalLengths.{decimal_length_is}
use Rattle.column_values.proofs.Numbers.{flipped_low, flipped_high}
use Rattle.column_values.proofs.Groups.{few_groups, sum-groups, length-grouped, are_grouped, ungrouped}
use Rattle.column_values.proofs.Groups.{ungrouped-grouped, grouped_head, decimal_length_sum}

pub turned_low : (b : ℕ) → b < 128 → bit_xor b 128 ≡ 128 + b
turned_low b low = flipped_low 7 b low

pub turned_high : (b : ℕ) → 128 ≤ b → b < 256 → bit_xor b 128 ≡ b - 128
turned_high b high low = flipped_high 7 b high low

turned_byte : (b : ℕ) → b < 256 → bit_xor b 128 < 256
turned_byte b low = elim (cases_lt b 128) [
  | inl h ↦ rw (turned_low b h) (omega arith)
  | inr h ↦
      rw (turned_high b h low) (omega arith)
]

turned_twice : (b : ℕ) → b < 256 → bit_xor (bit_xor b 128) 128 ≡ b
turned_twice b low =
    elim (cases_lt b 128) [
      | inl h ↦ rw (turned_low b h) (turned_high (128 + b) (omega arith) (omega arith) ∙ omega arith)
      | inr h ↦ rw (turned_high b h low) (turned_low (b - 128) (omega arith) ∙ omega arith)
    ]

pub top_twice : (bytes : List ℕ) → AreBytes bytes → with_top_turned (with_top_turned bytes) ≡ bytes
top_twice [] are = refl
top_twice (b ∷ bytes) are = ap (λ (x : ℕ). x ∷ bytes) (turned_twice b (All-head (λ (x : ℕ). x < 256) b bytes are))

pub are_top : (bytes : List ℕ) → AreBytes bytes → AreBytes (with_top_turned bytes)
are_top [] are = are
are_top (b ∷ bytes) are =
    All-cons (λ (x : ℕ). x < 256) (bit_xor b 128) bytes (turned_byte b (All-head (λ (x : ℕ). x < 256) b bytes are))
    (All-tail (λ (x : ℕ). x < 256) b bytes are)

pub complement_twice : (bytes : List ℕ) → AreBytes bytes → complemented (complemented bytes) ≡ bytes
complement_twice [] are = refl
complement_twice (b ∷ bytes) are =
    let low : b < 256 = All-head (λ (x : ℕ). x < 256) b bytes are in
    let first : 255 - (255 - b) ≡ b = omega arith in
    let rest = complement_twice bytes (All-tail (λ (x : ℕ). x < 256) b bytes are) in
    rw (first, rest) refl

pub are_complemented : (bytes : List ℕ) → AreBytes (complemented bytes)
are_complemented [] = All-nil (λ (x : ℕ). x < 256)
are_complemented (b ∷ bytes) = All-cons (λ (x : ℕ). x < 256) (255 - b) (complemented bytes) (omega arith)
    (are_complemented bytes)

pub length-top : (bytes : List ℕ) → length (with_top_turned bytes) ≡ length bytes
length-top [] = refl
length-top (b ∷ bytes) = refl

pub length-complemented : (bytes : List ℕ) → length (complemented bytes) ≡ length bytes
length-complemented [] = refl
length-complemented (b ∷ bytes) = ap suc (length-complemented bytes)

complemented_head : (bytes : List ℕ) → 1 ≤ length bytes → slice_index bytes 0 < 128
    → 128 ≤ slice_index (complemented bytes) 0
complemented_head [] some low = absurd (omega arith)
complemented_head (b ∷ bytes) some low = omega arith

-- a decimal has 1 to 18 bytes
pub decimal_size : (p s : ℕ) → IsColumnType (types.Decimal p s) → (1 ≤ decimal_length p s) × (decimal_length p s ≤ 18)
decimal_size p s known = let e = decimal_length_is p s in (omega (arith, known), omega (arith, known))

module _ (p s : ℕ) (known : IsColumnType (types.Decimal p s)) where
  total : sum (decimal_groups p s) ≡ p
  total = sum-groups p s (omega (arith, known))

  within : (n : ℕ) → n < 10 ^ p → n < 10 ^ sum (decimal_groups p s)
  within n low = subst (λ (k : ℕ). n < 10 ^ k) (sym total) low

  pub length-groups : (n : ℕ) → length (grouped (decimal_groups p s) n) ≡ decimal_length p s
  length-groups n = length-grouped (decimal_groups p s) n ∙ sym (decimal_length_sum p s)

  head_low : (n : ℕ) → n < 10 ^ p → slice_index (grouped (decimal_groups p s) n) 0 < 128
  head_low n low = grouped_head (decimal_groups p s) n (few_groups p s) (within n low)

  -- the groups have one number
  pub one_number : (m n : ℕ) → m < 10 ^ p → n < 10 ^ p
      → grouped (decimal_groups p s) m ≡ grouped (decimal_groups p s) n → m ≡ n
  one_number m n m_low n_low e =
      let read : Some (0 * 10 ^ sum (decimal_groups p s) + m) ≡ Some (0 * 10 ^ sum (decimal_groups p s) + n) =
      sym (ungrouped-grouped (decimal_groups p s) 0 m (few_groups p s) (within m m_low))
      ∙ ap (ungrouped (decimal_groups p s) 0) e ∙ ungrouped-grouped (decimal_groups p s) 0 n (few_groups p s)
      (within n n_low) in
      let same : 0 * 10 ^ sum (decimal_groups p s) + m ≡ 0 * 10 ^ sum (decimal_groups p s) + n = cc read in
      omega (arith, same)

  pub are_signed : (z : ℤ) → AreBytes (signed_groups (decimal_groups p s) z)
  are_signed (pos n) = are_grouped (decimal_groups p s) n
  are_signed (negsuc n) = are_complemented (grouped (decimal_groups p s) (suc n))

  pub length-signed : (z : ℤ) → length (signed_groups (decimal_groups p s) z) ≡ decimal_length p s
  length-signed (pos n) = length-groups n
  length-signed (negsuc n) = length-complemented (grouped (decimal_groups p s) (suc n)) ∙ length-groups (suc n)

  pub signed_low : (n : ℕ) → n < 10 ^ p → slice_index (signed_groups (decimal_groups p s) (pos n)) 0 < 128
  signed_low n low = head_low n low

  pub signed_high : (n : ℕ) → suc n < 10 ^ p → 128 ≤ slice_index (signed_groups (decimal_groups p s) (negsuc n)) 0
  signed_high n low = complemented_head (grouped (decimal_groups p s) (suc n))
      (omega (arith, length-groups (suc n), (decimal_size p s known).0)) (head_low (suc n) low)

  -- the groups that bytes have
  pub turned_back : (z : ℤ) (bytes : List ℕ) → SpellsDecimal p s z bytes
      → with_top_turned bytes ≡ signed_groups (decimal_groups p s) z
  unfolding decimal_bytes
  turned_back z bytes spell = ap with_top_turned spell.digits
      ∙ top_twice (signed_groups (decimal_groups p s) z) (are_signed z)

  pub spells_size : (z : ℤ) (bytes : List ℕ) → SpellsDecimal p s z bytes → length bytes ≡ decimal_length p s
  spells_size z bytes spell = sym (length-top bytes) ∙ ap length (turned_back z bytes spell) ∙ length-signed z

  spells_from : (z : ℤ) (bytes : List ℕ) → AreBytes bytes → nat_abs z < 10 ^ p
      → with_top_turned bytes ≡ signed_groups (decimal_groups p s) z → SpellsDecimal p s z bytes
  unfolding decimal_bytes
  spells_from z bytes are low e = record { few = low; digits = sym (top_twice bytes are) ∙ ap with_top_turned e }

  pub positive_spells : (n : ℕ) (bytes : List ℕ) → AreBytes bytes
      → (n < 10 ^ p) × (with_top_turned bytes ≡ grouped (decimal_groups p s) n) → SpellsDecimal p s (pos n) bytes
  positive_spells n bytes are found = spells_from (pos n) bytes are found.0 found.1

  pub negative_spells : (n : ℕ) (bytes : List ℕ) → AreBytes bytes → n ≢ 0
      → (n < 10 ^ p) × (complemented (with_top_turned bytes) ≡ grouped (decimal_groups p s) n)
      → SpellsDecimal p s (pos 0 -ℤ pos n) bytes
  negative_spells zero bytes are some found = absurd (some refl)
  negative_spells (suc n) bytes are some found =
      let e : pos 0 -ℤ pos (suc n) ≡ negsuc n = omega (arith, ints) in
      rw e (spells_from (negsuc n) bytes are found.0 (sym
      (complement_twice (with_top_turned bytes) (are_top bytes are)) ∙ ap complemented found.1))

  -- bytes with the top bit set spell no negative number, and others no positive one
  no_positive : (n : ℕ) (bytes : List ℕ) → 128 ≤ slice_index (with_top_turned bytes) 0
      → ¬ (SpellsDecimal p s (pos n) bytes)
  no_positive n bytes high spell = let e = ap (λ (t : List ℕ). slice_index t 0) (turned_back (pos n) bytes spell) in
      omega (arith, e, signed_low n spell.few)

  no_negative : (n : ℕ) (bytes : List ℕ) → slice_index (with_top_turned bytes) 0 < 128
      → ¬ (SpellsDecimal p s (negsuc n) bytes)
  no_negative n bytes low spell = let e = ap (λ (t : List ℕ). slice_index t 0)
      (turned_back (negsuc n) bytes spell) in omega (arith, e, signed_high n spell.few)

  pub none_low : (bytes : List ℕ) → slice_index (with_top_turned bytes) 0 < 128
      → FindsUnits p s (with_top_turned bytes) None → (z : ℤ) → ¬ (SpellsDecimal p s z bytes)
  none_low bytes low none (pos n) spell = none n spell.few (turned_back (pos n) bytes spell)
  none_low bytes low none (negsuc n) spell = no_negative n bytes low spell

  turned_negative : (n : ℕ) (bytes : List ℕ) → SpellsDecimal p s (negsuc n) bytes
      → complemented (with_top_turned bytes) ≡ grouped (decimal_groups p s) (suc n)
  turned_negative n bytes spell = ap complemented (turned_back (negsuc n) bytes spell)
      ∙ complement_twice (grouped (decimal_groups p s) (suc n)) (are_grouped (decimal_groups p s) (suc n))

  pub none_high : (bytes : List ℕ) → 128 ≤ slice_index (with_top_turned bytes) 0
      → FindsUnits p s (complemented (with_top_turned bytes)) None → (z : ℤ) → ¬ (SpellsDecimal p s z bytes)
  none_high bytes high none (pos n) spell = no_positive n bytes high spell
  none_high bytes high none (negsuc n) spell = none (suc n) spell.few (turned_negative n bytes spell)

  pub none_zero : (bytes : List ℕ) → 128 ≤ slice_index (with_top_turned bytes) 0
      → (0 < 10 ^ p) × (complemented (with_top_turned bytes) ≡ grouped (decimal_groups p s) 0) → (z : ℤ)
      → ¬ (SpellsDecimal p s z bytes)
  none_zero bytes high found (pos n) spell = no_positive n bytes high spell
  none_zero bytes high found (negsuc n) spell = let e =
      one_number (suc n) 0 spell.few found.0 (sym (turned_negative n bytes spell) ∙ found.1) in omega (arith, e)

  -- what is written
  pub decimal_spelled : (z : ℤ) (bytes : List ℕ) → nat_abs z < 10 ^ p
      → bytes ≡ with_top_turned (signed_groups (decimal_groups p s) z)
      → IsSpelled (types.Decimal p s) (values.Decimal z) bytes
  unfolding decimal_bytes
  decimal_spelled z bytes low is = record {
    are_bytes =
        rw is (are_top (signed_groups (decimal_groups p s) z) (are_signed z));
    spell =
        record { few = low; digits = is };
    same = is;
  }

  -- the sign is put to the groups
  pub sign_put : (z : ℤ) → (if lt_z z (pos 0) then complemented
      (grouped (decimal_groups p s) (nat_abs z)) else grouped (decimal_groups p s) (nat_abs z)) ≡ signed_groups
      (decimal_groups p s) z
  sign_put (pos n) = let t : ltb n 0 ≡ false = grind (arith, nat_tests) in rw t refl
  sign_put (negsuc n) = refl

  pub decimal_sized : (value : Value) (bytes : List ℕ) → Spell (types.Decimal p s) value bytes
      → length bytes ≡ decimal_length p s
  decimal_sized (values.Decimal z) bytes spell = spells_size z bytes spell
  decimal_sized _ bytes spell = absurd spell
