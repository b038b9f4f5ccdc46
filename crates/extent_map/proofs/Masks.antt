-- A number whose bits say which of the first numbers pass a test.
use Rattle.std.proofs.Common.{◌≡◌, ℕ, zero, suc, ◌+◌, ◌*◌, ◌/◌, ◌%◌, ◌^◌, ◌<◌, ◌≤◌, Bool, true, false, cond, not, List}
use Rattle.std.proofs.Common.{[], ◌∷◌, map, refl, sym, ◌∙◌, ap, add-one, add-zero, zero-add, arith}
use Rattle.std.proofs.Math.Nat.{pow-succ', div-div-eq-div-mul, mul-add, mul_assoc, mul_comm, mul-zero, mul-one, one-mul}
use Rattle.std.proofs.lemmas.Nat.{pow_pos}
use Rattle.std.proofs.lemmas.List.Sums.{sum_by-cons, sum_by-append}
use Rattle.page_source.proofs.Members.{range_more}
use Rattle.std.specs.List.{range_with_len, sum_by}
use Rattle.std.proofs.lemmas.Bool.{not-false}
use lib.Lanes.{mask_l}
use Rattle.extent_map.specs.Extents.{is_bit_clear, used_mask}

-- 1 where a test passes
abbrev pub bit : Bool → ℕ
bit b = cond b 1 0

-- the lowest bit is for 0
unfoldable pub mask : (ℕ → Bool) → ℕ → ℕ
mask p zero = 0
mask p (suc n) = bit (p 0) + 2 * mask (λ j. p (suc j)) n

pub bit_small : (b : Bool) → bit b < 2
bit_small true = omega arith
bit_small false = omega arith

bit_clear : (b : Bool) → bit b ≡ 0 → b ≡ false
bit_clear true none = absurd (omega (arith, none))
bit_clear false none = refl

pub bit_set : (b : Bool) → bit b ≡ 1 → b ≡ true
bit_set true one = refl
bit_set false one = absurd (omega (arith, one))

pub mask_fits : (p : ℕ → Bool) (n : ℕ) → mask p n < 2 ^ n
unfolding mask
mask_fits p zero = omega arith
mask_fits p (suc n) =
    omega (arith, mask_fits (λ j. p (suc j)) n, bit_small (p 0), pow-succ' 2 n)

pub mask_same : (p q : ℕ → Bool) (n : ℕ) → ((j : ℕ) → j < n → p j ≡ q j) → mask p n ≡ mask q n
unfolding mask
mask_same p q zero same = refl
mask_same p q (suc n) same =
    ap (λ (b : Bool). bit b + 2 * mask (λ j. p (suc j)) n) (same 0 (omega arith))
    ∙ ap (λ (m : ℕ). bit (q 0) + 2 * m) (mask_same (λ j. p (suc j)) (λ j. q (suc j)) n (λ j h. same (suc j)
    (omega arith)))

-- the bit of a number
pub mask_bit : (p : ℕ → Bool) (n j : ℕ) → j < n → mask p n / 2 ^ j % 2 ≡ bit (p j)
unfolding mask
mask_bit p zero j inside = absurd (omega arith)
mask_bit p (suc n) zero inside = omega (arith, bit_small (p 0))
mask_bit p (suc n) (suc j) inside =
    let rest = mask (λ j. p (suc j)) n in
    let half : (bit (p 0) + 2 * rest) / 2 ≡ rest = omega (arith, bit_small (p 0)) in
    let power : 2 ^ suc j ≡ 2 * 2 ^ j = pow-succ' 2 j in
    ap (λ (w : ℕ). (bit (p 0) + 2 * rest) / w % 2) power
    ∙ ap (λ (m : ℕ). m % 2) (sym (div-div-eq-div-mul (bit (p 0) + 2 * rest) 2 (2 ^ j)))
    ∙ ap (λ (m : ℕ). m / 2 ^ j % 2) half
    ∙ mask_bit (λ j. p (suc j)) n j (omega arith)

-- a number below a power of 2 has no bit from there on
pub mask_below : (p : ℕ → Bool) (n k : ℕ) → mask p n < 2 ^ k → (j : ℕ) → k ≤ j → j < n → p j ≡ false
unfolding mask
mask_below p zero k small j from inside = absurd (omega arith)
mask_below p (suc n) zero small zero from inside = bit_clear (p 0) (omega (arith, small))
mask_below p (suc n) zero small (suc j) from inside =
    mask_below (λ j. p (suc j)) n zero (omega (arith, small)) j (omega arith) (omega arith)
mask_below p (suc n) (suc k) small zero from inside = absurd (omega arith)
mask_below p (suc n) (suc k) small (suc j) from inside =
    mask_below (λ j. p (suc j)) n k (omega (arith, small, pow-succ' 2 k)) j (omega arith) (omega arith)

pub below_mask : (p : ℕ → Bool) (n k : ℕ) → ((j : ℕ) → k ≤ j → j < n → p j ≡ false) → mask p n < 2 ^ k
unfolding mask
below_mask p zero k none = omega (arith, pow_pos k)
below_mask p (suc n) zero none =
    let first : bit (p 0) ≡ 0 = ap bit (none 0 (omega arith) (omega arith)) in
    omega (arith, first, below_mask (λ j. p (suc j)) n zero (λ j _ h. none (suc j) (omega arith) (omega arith)))
below_mask p (suc n) (suc k) none =
    omega (
      arith,
      bit_small (p 0),
      pow-succ' 2 k,
      below_mask (λ j. p (suc j)) n k (λ j f h. none (suc j)
          (omega arith) (omega arith)),
    )

bit_or_not : (b : Bool) → bit b + bit (not b) ≡ 1
bit_or_not true = refl
bit_or_not false = refl

-- the bits that aren't set
mask_not : (p : ℕ → Bool) (n : ℕ) → mask p n + mask (λ j. not (p j)) n + 1 ≡ 2 ^ n
unfolding mask
mask_not p zero = refl
mask_not p (suc n) =
    omega (arith, mask_not (λ j. p (suc j)) n, pow-succ' 2 n, bit_or_not (p 0))

-- all bits are set
pub mask_full : (p : ℕ → Bool) (n : ℕ) → mask p n + 1 ≡ 2 ^ n → (j : ℕ) → j < n → p j ≡ true
mask_full p n full j inside =
    not-false (p j) (mask_below (λ j. not (p j)) n 0 (omega (arith, full, mask_not p n)) j (omega arith) inside)

-- the same number as a sum of powers
weighed_bit : (b : Bool) (v w : ℕ) → v ≡ w → cond b v 0 ≡ w * bit b
weighed_bit true v w same = same ∙ sym (mul-one w)
weighed_bit false v w same = sym (mul-zero w)

weighed : (p : ℕ → Bool) (w a n : ℕ) → w ≡ 2 ^ a
    → sum_by (λ j. cond (p j) (2 ^ j) 0) (range_with_len a n) ≡ w * mask (λ j. p (a + j)) n
unfolding mask
weighed p w a zero power = sym (mul-zero w)
weighed p w a (suc n) power =
    let here = λ (j : ℕ). p (a + j) in
    let rest = mask (λ j. here (suc j)) n in
    let first : cond (p a) (2 ^ a) 0 ≡ w * bit (here 0) = weighed_bit (p a) (2 ^ a) w (sym power)
    ∙ ap (λ (k : ℕ). w * bit (p k)) (omega arith) in
    let double : 2 * w ≡ 2 ^ (a + 1) = omega (arith, power, pow-succ' 2 a, ap (λ (k : ℕ). 2 ^ k) (add-one a)) in
    let tail : mask (λ j. p (a + 1 + j)) n ≡ rest = mask_same _ _ n (λ j _. ap p (omega arith)) in
    let others : 2 * w * mask (λ j. p (a + 1 + j)) n ≡ w * (2 * rest) =
    ap (λ (m : ℕ). 2 * w * m) tail ∙ ap (λ (k : ℕ). k * rest) (mul_comm 2 w) ∙ mul_assoc w 2 rest in
    let below : sum_by (λ j. cond (p j) (2 ^ j) 0) (range_with_len (a + 1) n) ≡ w * (2 * rest) =
    weighed p (2 * w) (a + 1) n double ∙ others in
    sum_by-cons (λ j. cond (p j) (2 ^ j) 0) a (range_with_len (a + 1) n)
    ∙ ap (λ (k : ℕ). k + sum_by (λ j. cond (p j) (2 ^ j) 0) (range_with_len (a + 1) n)) first
    ∙ ap (λ (k : ℕ). w * bit (here 0) + k) below
    ∙ sym (mul-add w (bit (here 0)) (2 * rest))

pub mask_sum : (p : ℕ → Bool) (n : ℕ) → sum_by (λ j. cond (p j) (2 ^ j) 0) (range_with_len 0 n) ≡ mask p n
mask_sum p n =
    weighed p 1 0 n refl ∙ one-mul (mask (λ j. p (0 + j)) n) ∙ mask_same (λ j. p (0 + j)) p n (λ j _. ap p (zero-add j))

-- the same number as a mask of truth values
pub mask_is_list : (p : ℕ → Bool) (a n : ℕ) → mask (λ j. p (a + j)) n ≡ mask_l (map p (range_with_len a n))
unfolding mask
mask_is_list p a zero = refl
mask_is_list p a (suc n) =
    ap (λ (k : ℕ). bit (p k) + 2 * mask (λ j. p (a + suc j)) n) (add-zero a)
    ∙ ap (λ (m : ℕ). bit (p a) + 2 * m) (mask_same _ _ n (λ j _. ap p (omega arith)) ∙ mask_is_list p (a + 1) n)

-- the sum of the powers of 2 whose numbers pass
unfoldable pub power_sum : (ℕ → Bool) → ℕ → ℕ
power_sum p n = sum_by (λ j. cond (p j) (2 ^ j) 0) (range_with_len 0 n)

pub power_sum-none : (p : ℕ → Bool) → power_sum p 0 ≡ 0
unfolding power_sum
power_sum-none p = refl

pub power_sum-more : (p : ℕ → Bool) (n : ℕ) → power_sum p (n + 1) ≡ power_sum p n + cond (p n) (2 ^ n) 0
unfolding power_sum
power_sum-more p n =
    let f = λ (j : ℕ). cond (p j) (2 ^ j) 0 in
    ap (sum_by f) (range_more n) ∙ sum_by-append f (range_with_len 0 n) (n ∷ [])
    ∙ ap (λ (k : ℕ). sum_by f (range_with_len 0 n) + k) (sum_by-cons f n [] ∙ add-zero (f n))

pub power_sum-fits : (p : ℕ → Bool) (n : ℕ) → power_sum p n < 2 ^ n
unfolding power_sum
power_sum-fits p n = omega (arith, mask_sum p n, mask_fits p n)

pub used_mask-powers : (page : List ℕ) (at : ℕ) → used_mask page at ≡ power_sum (is_bit_clear page at) 64
unfolding used_mask power_sum
used_mask-powers page at = refl
