-- The numbers of whole bytes, and their top bit.
use Rattle.std.proofs.Common.{◌≡◌, ℕ, zero, suc, ◌+◌, ◌-◌, ◌*◌, ◌^◌, ◌<◌, ◌≤◌, pos, ◌-ℤ◌, true, List, slice_index}
use Rattle.std.proofs.Common.{⊎_elim, pow-add, refl, ap, ◌∙◌, arith}
use Rattle.std.proofs.Math.Nat.{pow-suc, pow-le-pow_right, two-pow-succ}
use Rattle.std.proofs.lemmas.Bool.{lt-ltb, le-ltb, cases_lt}
use Rattle.std.proofs.lemmas.Nat.{xor_block}
use Rattle.std.proofs.lemmas.Int.{ints}
use Rattle.std.specs.Int.Bits.{bit_xor, xor_zero_r}
use Rattle.page_source.specs.Pages.{num}
use Rattle.column_values.specs.Spell.{IsInRange}
use Rattle.byteorder.specs.Endian.{big_from, big_number, twos_complement}

-- one byte more at the end
big_from-suc : (i n : ℕ) (xs : List ℕ) → big_from i (suc n) xs ≡ big_from i n xs * 256 + slice_index xs (i + n)
big_from-suc i zero xs = grind arith
big_from-suc i (suc n) xs =
    let rest : big_from (suc i) (suc n) xs ≡ big_from (suc i) n xs * 256 + slice_index xs (suc i + n) =
    big_from-suc (suc i) n xs in
    let place : suc i + n ≡ i + suc n = omega arith in
    rw (rest, pow-suc 256 n, place) (omega arith)

-- the words of two crates for a big-endian number say the same
pub big_number_is : (n : ℕ) (xs : List ℕ) → big_number n xs ≡ num xs 0 n
unfolding num
big_number_is zero xs = refl
big_number_is (suc n) xs = let step = big_from-suc 0 n xs in let rest = big_number_is n xs in grind arith

-- the size of whole bytes, in two ways
pow256 : (w : ℕ) → 256 ^ w ≡ 2 ^ (8 * w)
pow256 zero = refl
pow256 (suc w) =
    let e : 8 * suc w ≡ 8 * w + 8 = omega arith in rw (pow-suc 256 w, pow256 w, e, pow-add 2 (8 * w) 8) refl

-- the number of bytes is below their size
pub num-lt : (w : ℕ) (xs : List ℕ) → ((k : ℕ) → slice_index xs k < 256) → num xs 0 w < 256 ^ w
unfolding num
num-lt zero xs bytes = omega arith
num-lt (suc w) xs bytes =
    let rest = num-lt w xs bytes in let last = bytes w in rw (pow-suc 256 w) (omega (arith, last))

-- the top bit is flipped: it is added, or taken away
pub flipped_low : (k n : ℕ) → n < 2 ^ k → bit_xor n (2 ^ k) ≡ 2 ^ k + n
flipped_low k n low =
    let e : bit_xor (0 * 2 ^ k + n) (1 * 2 ^ k + 0) ≡ bit_xor 0 1 * 2 ^ k + bit_xor n 0 =
    xor_block k 0 1 n 0 low (omega arith) in
    let a : 0 * 2 ^ k + n ≡ n = omega arith in
    let b : 1 * 2 ^ k + 0 ≡ 2 ^ k = omega arith in
    rw (a, b, xor_zero_r) at e ∙ omega arith

pub flipped_high : (k n : ℕ) → 2 ^ k ≤ n → n < 2 ^ k + 2 ^ k → bit_xor n (2 ^ k) ≡ n - 2 ^ k
flipped_high k n high low =
    let e : bit_xor (1 * 2 ^ k + (n - 2 ^ k)) (1 * 2 ^ k + 0) ≡ bit_xor 1 1 * 2 ^ k + bit_xor (n - 2 ^ k) 0 =
    xor_block k 1 1 (n - 2 ^ k) 0 (omega arith) (omega arith) in
    let a : 1 * 2 ^ k + (n - 2 ^ k) ≡ n = omega arith in
    let b : 1 * 2 ^ k + 0 ≡ 2 ^ k = omega arith in
    rw (a, b, xor_zero_r) at e ∙ omega arith

-- a number less its top bit's worth is two's complement with that bit flipped
pub flipped_is : (w n : ℕ) → 1 ≤ w → n < 256 ^ w → pos n -ℤ pos (2 ^ (8 * w - 1)) ≡ twos_complement w
    (bit_xor n (2 ^ (8 * w - 1)))
flipped_is w n some fits =
    let whole : 8 * w ≡ suc (8 * w - 1) = omega arith in
    let twice : 2 ^ (8 * w) ≡ 2 ^ (8 * w - 1) + 2 ^ (8 * w - 1) = ap (λ (e : ℕ). 2 ^ e) whole
    ∙ two-pow-succ (8 * w - 1) in
    let size = pow256 w in
    ⊎_elim
    (λ low.
    let e = flipped_low (8 * w - 1) n low in
    let t = le-ltb (2 ^ (8 * w - 1) + n) (2 ^ (8 * w - 1)) (omega arith) in
    rw (e, t) (omega (arith, ints)))
    (λ high.
    let e = flipped_high (8 * w - 1) n high (omega arith) in
    let t = lt-ltb (n - 2 ^ (8 * w - 1)) (2 ^ (8 * w - 1)) (omega arith) in
    rw (e, t) (omega (arith, ints)))
    (cases_lt n (2 ^ (8 * w - 1)))

-- the size of whole bytes is twice the worth of their top bit
pub whole_is_twice : (w : ℕ) → 1 ≤ w → 256 ^ w ≡ 2 ^ (8 * w - 1) + 2 ^ (8 * w - 1)
whole_is_twice w some =
    let whole : 8 * w ≡ suc (8 * w - 1) = omega arith in
    pow256 w ∙ ap (λ (e : ℕ). 2 ^ e) whole ∙ two-pow-succ (8 * w - 1)

pub half_is_most : (w : ℕ) → w ≤ 8 → 2 ^ (8 * w - 1) ≤ 9223372036854775808
half_is_most w few = pow-le-pow_right {n = 2} (omega arith) {i = 8 * w - 1} {j = 63} (omega arith)

pub signed_range : (w n : ℕ) → 1 ≤ w → n < 256 ^ w → IsInRange true w (pos n -ℤ pos (2 ^ (8 * w - 1)))
signed_range w n some fits = let twice = whole_is_twice w some in (omega (arith, ints), omega (arith, ints))

pub pow256_most : (w : ℕ) → w ≤ 8 → 256 ^ w ≤ 2 ^ 64
pow256_most w few = pow-le-pow_right {n = 256} (omega arith) {i = w} {j = 8} few
