-- Words of whole numbers.
use Rattle.std.proofs.Common.{◌≡◌, ℕ, ◌^◌, ◌<◌, List, true, false, Option, Some, None, refl, subst}
use Rattle.std.proofs.Common.{ℤ, pos, arith}
use Rattle.std.specs.Fmt.{decimal, signed_decimal}
use Rattle.std.proofs.lemmas.Int.{ints}
use Rattle.column_values.specs.declared.kind.ColumnType.TheVariants as types
use Rattle.column_values.specs.declared.value.Value.{Value}
use Rattle.column_values.specs.declared.value.Value.TheVariants as values
use Rattle.column_values.specs.Types.{IsWidth}
use Rattle.column_values.specs.Spell.{IsInRange, int_bytes}
use Rattle.column_values.proofs.IntegerValues.{integer_in_range, integer_spelled, signed_written, unsigned_written}
use Rattle.column_values.proofs.Numbers.{half_is_most, pow256_most}
use Rattle.row_text.specs.calls.Words.{FitsLong, IsWordOf}

pub signed_word : (w : ℕ) (z : ℤ) (word : List ℕ) → IsWidth w → word ≡ signed_decimal z → IsInRange true w z
    → IsWordOf (types.Int w true) (values.Signed z) word
signed_word w z word known is range =
    let spelled = integer_spelled w true (values.Signed z) z (int_bytes true w z) refl
    (signed_written w z (omega (arith, known)) range) refl in
    record { is_value = (int_bytes true w z, spelled.are_bytes, spelled.spell); spelled = is }

pub unsigned_word : (w n : ℕ) (word : List ℕ) → IsWidth w → word ≡ decimal n → n < 256 ^ w
    → IsWordOf (types.Int w false) (values.Unsigned n) word
unsigned_word w n word known is low =
    let range : IsInRange false w (pos n) = (omega (arith, ints), omega (arith, ints, low)) in
    let spelled = integer_spelled w false (values.Unsigned n) (pos n) (int_bytes false w (pos n)) refl
    (unsigned_written w (pos n) range) refl in
    record { is_value = (int_bytes false w (pos n), spelled.are_bytes, spelled.spell); spelled = is }

fits_long : (w : ℕ) (z : ℤ) → IsWidth w → IsInRange true w z → FitsLong z
fits_long w z known range =
    let most = half_is_most w (omega (arith, known)) in
    (omega (arith, ints, range.0, most), omega (arith, ints, range.1, most))

signed_is : (w : ℕ) (v : Value) (word : List ℕ) → IsWidth w → IsWordOf (types.Int w true) v word
    → (z : ℤ) × (word ≡ signed_decimal z) × IsInRange true w z
signed_is w (values.Signed z) word known is =
    (z, is.spelled, integer_in_range w true (values.Signed z) z (omega (arith, known)) refl is.is_value)
signed_is w _ word known is = absurd is.is_value.2

unsigned_is : (w : ℕ) (v : Value) (word : List ℕ) → IsWidth w → IsWordOf (types.Int w false) v word
    → (n : ℕ) × (word ≡ decimal n) × (n < 256 ^ w)
unsigned_is w (values.Unsigned n) word known is =
    let range = integer_in_range w false (values.Unsigned n) (pos n) (omega (arith, known)) refl is.is_value in
    (n, is.spelled, omega (arith, ints, range.1))
unsigned_is w _ word known is = absurd is.is_value.2

-- no number is read, or one out of the range
pub no_signed : (w : ℕ) (word : List ℕ) → IsWidth w
    → ((z : ℤ) → FitsLong z → word ≡ signed_decimal z → ◌≡◌ {A = Option ℤ} None (Some z))
    → (v : Value) → ¬ (IsWordOf (types.Int w true) v word)
no_signed w word known none v is =
    let found = signed_is w v word known is in
    let bad = none found.0 (fits_long w found.0 known found.2) found.1 in cc bad

pub other_signed : (w : ℕ) (word : List ℕ) (y : ℤ) → IsWidth w
    → ((z : ℤ) → FitsLong z → word ≡ signed_decimal z → ◌≡◌ {A = Option ℤ} (Some y) (Some z))
    → (IsInRange true w y → ⊥) → (v : Value) → ¬ (IsWordOf (types.Int w true) v word)
other_signed w word y known only out v is =
    let found = signed_is w v word known is in
    let same = only found.0 (fits_long w found.0 known found.2) found.1 in
    let e : found.0 ≡ y = cc same in out (subst (IsInRange true w) e found.2)

low_long : (w n : ℕ) → IsWidth w → n < 256 ^ w → n < 2 ^ 64
low_long w n known low = let most = pow256_most w (omega (arith, known)) in omega (arith, low, most)

pub no_unsigned : (w : ℕ) (word : List ℕ) → IsWidth w
    → ((n : ℕ) → n < 2 ^ 64 → word ≡ decimal n → ◌≡◌ {A = Option ℕ} None (Some n))
    → (v : Value) → ¬ (IsWordOf (types.Int w false) v word)
no_unsigned w word known none v is =
    let found = unsigned_is w v word known is in
    let bad = none found.0 (low_long w found.0 known found.2) found.1 in cc bad

pub other_unsigned : (w : ℕ) (word : List ℕ) (m : ℕ) → IsWidth w
    → ((n : ℕ) → n < 2 ^ 64 → word ≡ decimal n → ◌≡◌ {A = Option ℕ} (Some m) (Some n))
    → (m < 256 ^ w → ⊥) → (v : Value) → ¬ (IsWordOf (types.Int w false) v word)
other_unsigned w word m known only out v is =
    let found = unsigned_is w v word known is in
    let same = only found.0 (low_long w found.0 known found.2) found.1 in
    let e : found.0 ≡ m = cc same in out (subst (λ (k : ℕ). k < 256 ^ w) e found.2)
