-- Digits from the last one on.
use Rattle.std.proofs.Common.{◌≡◌, ℕ, zero, suc, ◌+◌, ◌/◌, ◌^◌, ◌<◌, List, [], ◌∷◌, length, drop, slice_set, refl, sym}
use Rattle.std.proofs.Common.{ap, ◌∙◌, ◌-◌, ◌%◌, arith}
use Rattle.std.proofs.Math.Nat.{div-div-eq-div-mul, pow-succ', mul_comm}
use Rattle.row_text.specs.Digits.{last_digits}

-- the list from a place on that was written
drop_set : (xs : List ℕ) (i v : ℕ) → i < length xs → drop i (slice_set xs i v) ≡ v ∷ drop (suc i) xs
drop_set [] i v lt = absurd (omega (arith, lt))
drop_set (x ∷ xs) zero v lt = refl
drop_set (x ∷ xs) (suc i) v lt = drop_set xs i v (omega (arith, lt))

-- one digit less
pub div_more : (n k : ℕ) → n / 10 ^ k / 10 ≡ n / 10 ^ (k + 1)
div_more n k =
    div-div-eq-div-mul n (10 ^ k) 10 ∙ ap (λ (m : ℕ). n / m) (mul_comm (10 ^ k) 10 ∙ sym (pow-succ' 10 k))
    ∙ ap (λ (e : ℕ). n / 10 ^ e) (omega arith)

-- one digit more, before the others
pub one_more_digit : (xs : List ℕ) (n size count left : ℕ) → length xs ≡ size → count < size → left ≡ n / 10 ^ count
    → drop (size - count) xs ≡ last_digits count n
    → drop (size - (count + 1)) (slice_set xs (length xs - 1 - count) (48 + left % 10)) ≡ last_digits (count + 1) n
unfolding last_digits
one_more_digit xs n size count left whole below rest digits =
    let place : length xs - 1 - count ≡ size - (count + 1) = omega (arith, whole) in
    let next : suc (size - (count + 1)) ≡ size - count = omega (arith, below) in
    let more : count + 1 ≡ suc count = omega arith in
    rw (place, more) (drop_set xs (size - suc count) (48 + left % 10) (omega (arith, whole, below))
    ∙ ap (λ (t : List ℕ). (48 + left % 10) ∷ t) (ap (λ (k : ℕ). drop k xs) (rw more at next) ∙ digits)
    ∙ ap (λ (m : ℕ). (48 + m % 10) ∷ last_digits count n) rest)
