-- Which number has these digits.
use Rattle.std.proofs.Common.{◌≡◌, ℕ, zero, suc, ◌+◌, ◌*◌, ◌/◌, ◌%◌, ◌^◌, ◌<◌, List, [], ◌∷◌, ◌++◌, length}
use Rattle.std.proofs.Common.{refl, sym, ap, ◌∙◌, arith, eqb, take, drop, length-append}
use Rattle.std.proofs.Common.{inl, inr}
use Rattle.std.proofs.Math.Nat.{pow-suc, pow-succ', div-div-eq-div-mul, mod-eq_of_lt}
use Rattle.std.proofs.lemmas.Nat.{div-add-mod', mul-add-lt, mod-mul-add, mod_below}
use Rattle.std.proofs.lemmas.Bool.{cases_eq, cond-false, ne_eqb}
use Rattle.std.proofs.lemmas.List.{take_at, drop_at}
use Rattle.column_values.proofs.Groups.{some_power}
use Rattle.row_text.specs.Digits.{last_digits, two_digits, four_digits, behind_point}

-- two parts, of which the second ones have one length
pub same_parts : (a b x y : List ℕ) → length x ≡ length y → a ++ x ≡ b ++ y → (a ≡ b) × (x ≡ y)
same_parts a b x y long e =
    let total : length a + length x ≡ length b + length y =
    sym (length-append a x) ∙ ap length e ∙ length-append b y in
    let size : length b ≡ length a = omega (arith, total, long) in (
      sym (take_at a x (length a) refl) ∙ ap (take (length a)) e ∙ take_at b y (length a) size,
      sym (drop_at a x (length a) refl) ∙ ap (drop (length a)) e ∙ drop_at b y (length a) size,
    )

split_ten : (m q r p : ℕ) → q * p + r ≡ m → q / 10 * (p * 10) + (q % 10 * p + r) ≡ m
split_ten m q r p e =
    let tens : q / 10 * 10 + q % 10 ≡ q = omega arith in
    let both : (q / 10 * 10 + q % 10) * p ≡ q * p = ap (λ (k : ℕ). k * p) tens in
    omega (arith, both, e)

tens : (c : ℕ) → 10 ^ suc c ≡ 10 ^ c * 10
tens c = pow-suc 10 c

-- the last digits are a digit and those behind it
pub ten_step : (m c : ℕ) → m % 10 ^ suc c ≡ m / 10 ^ c % 10 * 10 ^ c + m % 10 ^ c
ten_step m c =
    let some = some_power c in
    let low = mod_below m (10 ^ c) some in
    let fits : m / 10 ^ c % 10 * 10 ^ c + m % 10 ^ c < 10 ^ c * 10 =
    mul-add-lt (m / 10 ^ c % 10) (10 ^ c) (m % 10 ^ c) 10 (omega arith) low in
    let whole = split_ten m (m / 10 ^ c) (m % 10 ^ c) (10 ^ c) (div-add-mod' m (10 ^ c)) in
    ap (λ (k : ℕ). m % k) (tens c) ∙ ap (λ (k : ℕ). k % (10 ^ c * 10)) (sym whole)
    ∙ mod-mul-add (m / 10 ^ c / 10) (10 ^ c * 10) (m / 10 ^ c % 10 * 10 ^ c + m % 10 ^ c) fits

last_mod : (c m n : ℕ) → last_digits c m ≡ last_digits c n → m % 10 ^ c ≡ n % 10 ^ c
unfolding last_digits
last_mod zero m n e = omega arith
last_mod (suc c) m n e =
    let head : 48 + m / 10 ^ c % 10 ≡ 48 + n / 10 ^ c % 10 = cc in
    let first : m / 10 ^ c % 10 ≡ n / 10 ^ c % 10 = omega (arith, head) in
    let rest : last_digits c m ≡ last_digits c n = cc in
    ten_step m c ∙ ap (λ (k : ℕ). k * 10 ^ c + m % 10 ^ c) first
    ∙ ap (λ (k : ℕ). n / 10 ^ c % 10 * 10 ^ c + k) (last_mod c m n rest) ∙ sym (ten_step n c)

pub length-last_digits : (c n : ℕ) → length (last_digits c n) ≡ c
unfolding last_digits
length-last_digits zero n = refl
length-last_digits (suc c) n = ap suc (length-last_digits c n)

-- the last digit goes first
shift : (n c : ℕ) → n / 10 ^ suc c ≡ n / 10 / 10 ^ c
shift n c = ap (λ (k : ℕ). n / k) (pow-succ' 10 c) ∙ sym (div-div-eq-div-mul n 10 (10 ^ c))

-- one digit more, behind the others
pub last_push : (c n d : ℕ) → d < 10 → last_digits (suc c) (n * 10 + d) ≡ last_digits c n ++ (48 + d) ∷ []
unfolding last_digits
last_push zero n d low = ap (λ (k : ℕ). (48 + k) ∷ []) (omega (arith, low))
last_push (suc c) n d low =
    let front : (n * 10 + d) / 10 ≡ n = omega (arith, low) in
    let head : (n * 10 + d) / 10 ^ suc c ≡ n / 10 ^ c =
    shift (n * 10 + d) c ∙ ap (λ (k : ℕ). k / 10 ^ c) front in
    ap (λ (k : ℕ). (48 + k % 10) ∷ last_digits (suc c) (n * 10 + d)) head
    ∙ ap (λ (t : List ℕ). (48 + n / 10 ^ c % 10) ∷ t) (last_push c n d low)

-- numbers in a fixed number of digits
pub two_injective : (m n : ℕ) (s t : List ℕ) → m < 100 → n < 100 → two_digits m ++ s ≡ two_digits n ++ t
    → (m ≡ n) × (s ≡ t)
two_injective m n s t low_m low_n e =
    let a : 48 + m / 10 % 10 ≡ 48 + n / 10 % 10 = cc in
    let b : 48 + m % 10 ≡ 48 + n % 10 = cc in
    (omega (arith, a, b, low_m, low_n), cc)

pub four_injective : (m n : ℕ) (s t : List ℕ) → m < 10000 → n < 10000 → four_digits m ++ s ≡ four_digits n ++ t
    → (m ≡ n) × (s ≡ t)
four_injective m n s t low_m low_n e =
    let a : 48 + m / 100 / 10 % 10 ≡ 48 + n / 100 / 10 % 10 = cc in
    let b : 48 + m / 100 % 10 ≡ 48 + n / 100 % 10 = cc in
    let c : 48 + m / 10 % 10 ≡ 48 + n / 10 % 10 = cc in
    let d : 48 + m % 10 ≡ 48 + n % 10 = cc in
    (omega (arith, a, b, c, d, low_m, low_n), cc)

-- what stands behind a point
pub behind_size : (c m n : ℕ) → length (behind_point c m) ≡ length (behind_point c n)
behind_size c m n = elim (cases_eq c 0) [
  | inl none ↦ rw none refl
  | inr some ↦ rw (ne_eqb c 0 some) (ap suc (length-last_digits c m ∙ sym (length-last_digits c n)))
]

pub behind_mod : (c m n : ℕ) → behind_point c m ≡ behind_point c n → m % 10 ^ c ≡ n % 10 ^ c
behind_mod c m n e = elim (cases_eq c 0) [
  | inl none ↦ rw none (omega arith)
  | inr some ↦ let f : 46 ∷ last_digits c m ≡ 46 ∷ last_digits c n =
      sym (cond-false (eqb c 0) [] (46 ∷ last_digits c m) (ne_eqb c 0 some)) ∙ e
      ∙ cond-false (eqb c 0) [] (46 ∷ last_digits c n) (ne_eqb c 0 some) in
      let g : last_digits c m ≡ last_digits c n = cc in last_mod c m n g
]

pub behind_injective : (c m n : ℕ) → m < 10 ^ c → n < 10 ^ c → behind_point c m ≡ behind_point c n → m ≡ n
behind_injective c m n low_m low_n e = sym (mod-eq_of_lt low_m) ∙ behind_mod c m n e ∙ mod-eq_of_lt low_n
