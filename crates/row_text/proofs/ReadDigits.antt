-- Digits that are read one after another.
use Rattle.std.proofs.Common.{◌≡◌, ◌≢◌, ℕ, zero, suc, ◌+◌, ◌-◌, ◌*◌, ◌/◌, ◌%◌, ◌^◌, ◌<◌, ◌≤◌, List, [], ◌∷◌, ◌++◌}
use Rattle.std.proofs.Common.{length, take}
use Rattle.std.proofs.Common.{get_or, refl, sym, ap, ◌∙◌, subst, arith, eqb}
use Rattle.std.proofs.lemmas.Bool.{cond-false, ne_eqb}
use Rattle.std.proofs.lemmas.List.{take_more, take_all}
use Rattle.std.proofs.Math.Nat.{pow-suc, pow-le-pow_right}
use Rattle.row_text.specs.Digits.{last_digits, behind_point}
use Rattle.row_text.proofs.FixedDigits.{last_push, length-last_digits}

-- the number has the digits so far
pub record AreDigits (digits : List ℕ) (count number : ℕ) : Type 0 where
  pub low : number < 10 ^ count
  pub same : take count digits ≡ last_digits count number

pub digits_none : (digits : List ℕ) → AreDigits digits 0 0
unfolding last_digits
digits_none digits = record { low = omega arith; same = refl }

pub digits_more : (digits : List ℕ) (count number d : ℕ) → AreDigits digits count number → count < length digits
    → d < 10
    → 48 + d ≡ get_or digits count 0 → AreDigits digits (count + 1) (number * 10 + d)
digits_more digits count number d is lt low here =
    let next : count + 1 ≡ suc count = omega arith in
    record {
      low = rw (next, pow-suc 10 count) (omega (arith, is.low, low));
      same = take_more digits count 0 lt ∙ ap (λ (t : List ℕ). t ++ get_or digits count 0 ∷ []) is.same
          ∙ ap (λ (b : ℕ). last_digits count number ++ b ∷ []) (sym here) ∙ sym (last_push count number d low)
          ∙ ap (λ (k : ℕ). last_digits k (number * 10 + d)) (sym next);
    }

-- a number below its power fits
pub digits_fit : (count number d : ℕ) → number < 10 ^ count → count < 38 → d < 10 → number * 10 + d < 10 ^ 38
digits_fit count number d low few small =
    let most : 10 ^ suc count ≤ 10 ^ 38 = pow-le-pow_right {n = 10} (omega arith) {i = suc count} {j = 38} few in
    let step : 10 ^ suc count ≡ 10 ^ count * 10 = pow-suc 10 count in
    omega (arith, most, step, low, small)

-- each digit of a number is one
digit_at_is : (count n i : ℕ) → i < count → 48 + n / 10 ^ (count - suc i) % 10 ≡ get_or (last_digits count n) i 0
unfolding last_digits
digit_at_is zero n i lt = absurd (omega (arith, lt))
digit_at_is (suc count) n zero lt =
    let e : suc count - suc zero ≡ count = omega arith in ap (λ (k : ℕ). 48 + n / 10 ^ k % 10) e
digit_at_is (suc count) n (suc i) lt =
    let e : suc count - suc (suc i) ≡ count - suc i = omega arith in
    ap (λ (k : ℕ). 48 + n / 10 ^ k % 10) e ∙ digit_at_is count n i (omega (arith, lt))

pub no_digit : (digits : List ℕ) (n i : ℕ) → i < length digits → ((d : ℕ) → d < 10 → 48 + d ≢ get_or digits i 0)
    → digits ≡ last_digits (length digits) n → ⊥
no_digit digits n i lt none e =
    none (n / 10 ^ (length digits - suc i) % 10) (omega arith)
    (digit_at_is (length digits) n i lt ∙ ap (λ (t : List ℕ). get_or t i 0) (sym e))

pub digits_all : (digits : List ℕ) (count number : ℕ) → AreDigits digits count number → length digits ≡ count
    → (number < 10 ^ length digits) × (digits ≡ last_digits (length digits) number)
digits_all digits count number is whole = (
  subst (λ (k : ℕ). number < 10 ^ k) (sym whole) is.low,
  sym (take_all count digits (omega (arith, whole))) ∙ is.same ∙ ap (λ (k : ℕ). last_digits k number) (sym whole),
)

-- behind a point
pub point_is : (c n : ℕ) → (c ≡ 0 → ⊥) → behind_point c n ≡ 46 ∷ last_digits c n
point_is c n some = cond-false (eqb c 0) [] (46 ∷ last_digits c n) (ne_eqb c 0 some)

pub no_point : (text : List ℕ) (c n : ℕ) → (c ≡ 0 → ⊥) → text ≡ behind_point c n
    → (length text ≡ c + 1) × (get_or text 0 0 ≡ 46)
no_point text c n some e =
    let f = e ∙ point_is c n some in
    (omega (arith, ap length f, length-last_digits c n), ap (λ (t : List ℕ). get_or t 0 0) f)
