-- Words of decimals.
use Rattle.std.proofs.Common.{◌≡◌, ◌≢◌, ℕ, zero, suc, ◌+◌, ◌-◌, ◌*◌, ◌/◌, ◌%◌, ◌^◌, ◌<◌, ◌≤◌, List, [], ◌∷◌, ◌++◌}
use Rattle.std.proofs.Common.{length}
use Rattle.std.proofs.Common.{take, drop, refl, sym, ap, ◌∙◌, ℤ, pos, negsuc, arith, eqb, cond, length-append, pow-add}
use Rattle.std.specs.Prelude.{nat_abs}
use Rattle.std.specs.Fmt.{decimal}
use Rattle.std.proofs.Math.Nat.{mod-eq_of_lt, mul-le-mul, pow-le-pow_right}
use Rattle.std.proofs.lemmas.Nat.{same_from_place, mod_below, div-mul-add, mod-mul-add, div_below}
use Rattle.std.proofs.lemmas.List.{take_at, drop_at}
use Rattle.page_source.specs.Pages.{AreBytes}
use Rattle.column_values.specs.declared.kind.ColumnType.TheVariants as types
use Rattle.column_values.specs.declared.value.Value.{Value}
use Rattle.column_values.specs.declared.value.Value.TheVariants as values
use Rattle.column_values.specs.Types.{IsColumnType}
use Rattle.column_values.specs.Lengths.{decimal_groups}
use Rattle.column_values.specs.Decimals.{decimal_bytes, signed_groups}
use Rattle.column_values.proofs.DecimalValues.{are_top, are_signed}
use Rattle.column_values.proofs.Groups.{some_power}
use Rattle.row_text.specs.Digits.{last_digits, behind_point, decimal_text}
use Rattle.row_text.specs.calls.Words.{IsWordOf, unsigned_text}
use Rattle.row_text.proofs.FixedDigits.{ten_step, same_parts, behind_size, behind_mod}
use Rattle.row_text.proofs.OneNumber.{decimal_one, first_digit, whole_plus, whole_minus, back}
use Rattle.row_text.proofs.Shapes.{decimal_low}

-- numbers with one remainder have the same last digits
last_same : (c m n : ℕ) → m % 10 ^ c ≡ n % 10 ^ c → last_digits c m ≡ last_digits c n
unfolding last_digits
last_same zero m n e = refl
last_same (suc c) m n e =
    let some = some_power c in
    let both : m / 10 ^ c % 10 * 10 ^ c + m % 10 ^ c ≡ n / 10 ^ c % 10 * 10 ^ c + n % 10 ^ c =
    sym (ten_step m c) ∙ e ∙ ten_step n c in
    let parts = same_from_place (m / 10 ^ c % 10) (m % 10 ^ c) (n / 10 ^ c % 10) (n % 10 ^ c) (10 ^ c)
    (mod_below m (10 ^ c) some) (mod_below n (10 ^ c) some) both in
    ap (λ (d : ℕ). (48 + d) ∷ last_digits c m) parts.0
    ∙ ap (λ (t : List ℕ). (48 + n / 10 ^ c % 10) ∷ t) (last_same c m n parts.1)

abbrev if_digits : ℕ → List ℕ → List ℕ
if_digits c t = cond (eqb c 0) [] (46 ∷ t)

behind_same : (c m n : ℕ) → m % 10 ^ c ≡ n % 10 ^ c → behind_point c m ≡ behind_point c n
behind_same c m n e = ap (λ (t : List ℕ). if_digits c t) (last_same c m n e)

-- whole and part
pub units_text : (s whole part : ℕ) → part < 10 ^ s
    → decimal whole ++ behind_point s part ≡ unsigned_text s (whole * 10 ^ s + part)
units_text s whole part low =
    let first : (whole * 10 ^ s + part) / 10 ^ s ≡ whole = div-mul-add whole (10 ^ s) part low in
    let last : (whole * 10 ^ s + part) % 10 ^ s ≡ part = mod-mul-add whole (10 ^ s) part low in
    ap (λ (k : ℕ). decimal k ++ behind_point s part) (sym first)
    ∙ ap (λ (t : List ℕ). decimal ((whole * 10 ^ s + part) / 10 ^ s) ++ t)
    (behind_same s part (whole * 10 ^ s + part) (mod-eq_of_lt low ∙ sym last))

power_parts : (p s : ℕ) → s ≤ p → 10 ^ p ≡ 10 ^ (p - s) * 10 ^ s
power_parts p s few =
    let both : p ≡ (p - s) + s = omega (arith, few) in ap (λ (k : ℕ). 10 ^ k) both ∙ pow-add 10 (p - s) s

pub units_low : (p s whole part : ℕ) → s ≤ p → whole < 10 ^ (p - s) → part < 10 ^ s → whole * 10 ^ s + part < 10 ^ p
units_low p s whole part few low_whole low_part =
    let more : whole + 1 ≤ 10 ^ (p - s) = omega (arith, low_whole) in
    let same : 10 ^ s ≤ 10 ^ s = omega arith in
    let step : (whole + 1) * 10 ^ s ≤ 10 ^ (p - s) * 10 ^ s = mul-le-mul more same in
    omega (arith, step, power_parts p s few, low_part)

pub most_power : (p : ℕ) → p ≤ 38 → 10 ^ p ≤ 10 ^ 38
most_power p few = pow-le-pow_right {n = 10} (omega arith) {i = p} {j = 38} few

-- the parts of a text of units
pub record UnitParts (s n : ℕ) (whole part : List ℕ) : Type 0 where
  pub whole_is : whole ≡ decimal (n / 10 ^ s)
  pub part_is : part ≡ behind_point s n

pub unit_parts : (s n size : ℕ) (text whole part : List ℕ) → ((m : ℕ) → size ≡ length (behind_point s m))
    → whole ≡ take (length text - size) text → part ≡ drop (length text - size) text → text ≡ unsigned_text s n
    → UnitParts s n whole part
unit_parts s n size text whole part sized a b e =
    let front : List ℕ = decimal (n / 10 ^ s) in
    let long : length text ≡ length front + size =
    omega (arith, ap length e, length-append front (behind_point s n), sized n) in
    let place : length front ≡ length text - size = omega (arith, long) in record {
      whole_is = a ∙ ap (take (length text - size)) e ∙ take_at front (behind_point s n) (length text - size) place;
      part_is = b ∙ ap (drop (length text - size)) e ∙ drop_at front (behind_point s n) (length text - size) place;
    }

pub whole_low : (p s n : ℕ) → s ≤ p → n < 10 ^ p → n / 10 ^ s < 10 ^ (p - s)
whole_low p s n few low = div_below n (10 ^ s) (10 ^ (p - s)) (some_power s) (omega (arith, low, power_parts p s few))

-- the word of a decimal
units_bytes : (p s : ℕ) (z : ℤ) → IsColumnType (types.Decimal p s) → AreBytes (decimal_bytes p s z)
unfolding decimal_bytes
units_bytes p s z known = are_top (signed_groups (decimal_groups p s) z) (are_signed p s known z)

decimal_is : (p s : ℕ) (z : ℤ) (word : List ℕ) → IsColumnType (types.Decimal p s) → nat_abs z < 10 ^ p
    → word ≡ decimal_text s z → IsWordOf (types.Decimal p s) (values.Decimal z) word
decimal_is p s z word known low e = record {
  is_value = (decimal_bytes p s z, units_bytes p s z known, record { few = low; digits = refl });
  spelled = e;
}

pub plus_word : (p s n : ℕ) (word : List ℕ) → IsColumnType (types.Decimal p s) → n < 10 ^ p → word ≡ unsigned_text s n
    → IsWordOf (types.Decimal p s) (values.Decimal (pos n)) word
plus_word p s n word known low e =
    decimal_is p s (pos n) word known low (e ∙ ap (λ (t : List ℕ). t ++ behind_point s n) (sym (whole_plus s n)))

pub minus_word : (p s n : ℕ) (word text : List ℕ) → IsColumnType (types.Decimal p s) → suc n < 10 ^ p
    → word ≡ 45 ∷ text → text ≡ unsigned_text s (suc n) → IsWordOf (types.Decimal p s) (values.Decimal (negsuc n)) word
minus_word p s n word text known low e f =
    decimal_is p s (negsuc n) word known low (e ∙ ap (λ (t : List ℕ). 45 ∷ t) f
    ∙ ap (λ (t : List ℕ). t ++ behind_point s (suc n)) (sym (whole_minus s n)))

-- no decimal has the word
pub no_plus : (p s : ℕ) (word : List ℕ) → IsColumnType (types.Decimal p s)
    → ((rest : List ℕ) → word ≢ 45 ∷ rest) → ((n : ℕ) → n < 10 ^ p → word ≢ unsigned_text s n)
    → (v : Value) → ¬ (IsWordOf (types.Decimal p s) v word)
no_plus p s word known minus none (values.Decimal (pos n)) is =
    none n is.is_value.2.few (is.spelled ∙ ap (λ (t : List ℕ). t ++ behind_point s n) (whole_plus s n))
no_plus p s word known minus none (values.Decimal (negsuc n)) is =
    minus _ (is.spelled ∙ ap (λ (t : List ℕ). t ++ behind_point s (suc n)) (whole_minus s n))
no_plus p s word known minus none _ is = absurd is.is_value.2

pub no_minus : (p s : ℕ) (word text : List ℕ) → IsColumnType (types.Decimal p s) → word ≡ 45 ∷ text
    → ((n : ℕ) → 0 < n → n < 10 ^ p → text ≢ unsigned_text s n) → (v : Value) → ¬ (IsWordOf (types.Decimal p s) v word)
no_minus p s word text known e none (values.Decimal (pos n)) is =
    let f : decimal (n / 10 ^ s) ++ behind_point s n ≡ 45 ∷ text =
    sym (is.spelled ∙ ap (λ (t : List ℕ). t ++ behind_point s n) (whole_plus s n)) ∙ e in
    let low = decimal_low p n (omega (arith, known)) is.is_value.2.few in
    let d = first_digit (n / 10 ^ s) (behind_point s n) text 45 (omega (arith, low)) f in omega (arith, d.0)
no_minus p s word text known e none (values.Decimal (negsuc n)) is =
    let f : 45 ∷ text ≡ 45 ∷ unsigned_text s (suc n) =
    sym e ∙ is.spelled ∙ ap (λ (t : List ℕ). t ++ behind_point s (suc n)) (whole_minus s n) in
    let g : text ≡ unsigned_text s (suc n) = cc in
    none (suc n) (omega arith) is.is_value.2.few g
no_minus p s word text known e none _ is = absurd is.is_value.2

-- a text is that of one number of units
pub one_units : (s m n : ℕ) (text : List ℕ) → m < 10 ^ 64 → n < 10 ^ 64 → text ≡ unsigned_text s m
    → text ≡ unsigned_text s n → m ≡ n
one_units s m n text low_m low_n a b =
    let parts = same_parts (decimal (m / 10 ^ s)) (decimal (n / 10 ^ s)) (behind_point s m) (behind_point s n)
    (behind_size s m n) (sym a ∙ b) in
    back s m n (decimal_one (m / 10 ^ s) (n / 10 ^ s) (omega (arith, low_m)) (omega (arith, low_n)) parts.0)
    (behind_mod s m n parts.1)
