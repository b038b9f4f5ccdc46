-- Sums over the first numbers: those at different places are a part of the whole.
use Rattle.std.proofs.Common.{◌≡◌, ◌≢◌, ℕ, zero, suc, ◌+◌, ◌<◌, ◌≤◌, ◌==◌, true, false, cond, List, length, flat_map}
use Rattle.std.proofs.Common.{refl, ap, ◌∙◌, subst, arith, inl, inr, length-append}
use Rattle.std.specs.List.{range_with_len}
use Rattle.std.proofs.lemmas.Bool.{cases_lt}
use Rattle.std.proofs.lemmas.Bool.Decides.{nat_tests}
use Rattle.sql_dump.proofs.RowLines.{range_more}

abbrev pub total : (ℕ → ℕ) → ℕ → ℕ
total g zero = 0
total g (suc k) = total g k + g k

-- the members of lists that are joined
pub length_is_total : {A : Type 0} (f : ℕ → List A) (k : ℕ)
    → length (flat_map f (range_with_len 0 k)) ≡ total (λ c. length (f c)) k
length_is_total f zero = refl
length_is_total f (suc k) =
    let e : k + 1 ≡ suc k = omega arith in
    subst (λ (n : ℕ). length (flat_map f (range_with_len 0 n)) ≡ total (λ c. length (f c)) k + length (f k)) e
    (ap length (range_more f k) ∙ length-append (flat_map f (range_with_len 0 k)) (f k)
    ∙ ap (λ (n : ℕ). n + length (f k)) (length_is_total f k))

pub total_same : (g h : ℕ → ℕ) (n : ℕ) → ((i : ℕ) → i < n → g i ≡ h i) → total g n ≡ total h n
total_same g h zero same = refl
total_same g h (suc n) same =
    let front = total_same g h n (λ i below. same i (omega arith)) in
    omega (arith, front, same n (omega arith))

-- all but the one at p
without : (ℕ → ℕ) → ℕ → ℕ → ℕ
without g p i = cond (i == p) 0 (g i)

without_same : (g : ℕ → ℕ) (p i : ℕ) → i ≢ p → g i ≡ without g p i
unfolding without
without_same g p i other = let test : (i == p) ≡ false = grind (arith, nat_tests, other) in rw test refl

without_none : (g : ℕ → ℕ) (p : ℕ) → without g p p ≡ 0
unfolding without
without_none g p = let test : (p == p) ≡ true = grind (arith, nat_tests) in rw test refl

total_without : (g : ℕ → ℕ) (p n : ℕ) → p < n → total g n ≡ total (without g p) n + g p
total_without g p zero within = absurd (omega arith)
total_without g p (suc n) within =
    elim (cases_lt p n) [
      | inl less ↦
          let other : n ≢ p = omega arith in
          omega (arith, total_without g p n less, without_same g p n other)
      | inr more ↦
          let e : n ≡ p = omega arith in
          let front = total_same g (without g p) n
          (λ i below. let other : i ≢ p = omega arith in without_same g p i other) in
          let none : without g p n ≡ 0 = ap (without g p) e ∙ without_none g p in
          omega (arith, front, none, ap g e)
    ]

-- the numbers at different places are a part of all
pub total_part : (g f : ℕ → ℕ) (m n : ℕ) → ((c : ℕ) → c < m → f c < n)
    → ((c d : ℕ) → c < d → d < m → f c ≢ f d) → total (λ c. g (f c)) m ≤ total g n
total_part g f zero n within apart = omega arith
total_part g f (suc m) n within apart =
    let p = f m in
    let less = total_part (without g p) f m n (λ c below. within c (omega arith))
    (λ c d below last. apart c d below (omega arith)) in
    let same = total_same (λ c. g (f c)) (λ c. without g p (f c)) m
    (λ c below. without_same g p (f c) (apart c m below (omega arith))) in
    omega (arith, less, same, total_without g p n (within m (omega arith)))
