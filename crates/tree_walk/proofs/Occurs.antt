-- how often a number occurs in a list
use Rattle.std.proofs.Common.{◌≡◌, ◌==◌, ℕ, ◌+◌, ◌≤◌, List, [], ◌∷◌, ◌++◌, true, false, cond, refl, arith, inl, inr}
use Rattle.std.specs.List.{flat_map}
use Rattle.std.proofs.lemmas.Bool.{true≢false, false≢true}
use Rattle.std.proofs.lemmas.Bool.{cases_eq, ne_eqb}
use Rattle.std.specs.List.{All}
use Rattle.std.proofs.lemmas.List.Elements.{All-head, All-tail}
use Rattle.std.proofs.lemmas.List.Sums.{sum_by-cons, sum_by-append}
use Rattle.space_audit.specs.Marks.{is_in}
use Rattle.page_source.specs.Lists.{times_in}

-- the number first, as in the lemmas
abbrev pub occurs : ℕ → List ℕ → ℕ
occurs n xs = times_in xs n

pub occurs-cons : (n x : ℕ) (xs : List ℕ) → occurs n (x ∷ xs) ≡ cond (x == n) 1 0 + occurs n xs
occurs-cons n x xs = sum_by-cons (λ y. cond (y == n) 1 0) x xs

pub occurs-append : (n : ℕ) (xs ys : List ℕ) → occurs n (xs ++ ys) ≡ occurs n xs + occurs n ys
occurs-append n xs ys = sum_by-append (λ y. cond (y == n) 1 0) xs ys

pub occurs_none : (n : ℕ) (xs : List ℕ) → is_in xs n ≡ false → occurs n xs ≡ 0
occurs_none n [] e = refl
occurs_none n (x ∷ xs) e =
    rw occurs-cons
    (elim (x == n) as (λ b. cond b true (is_in xs n) ≡ false → cond b 1 0 + occurs n xs ≡ 0)
    [ true ↦ λ e. absurd (true≢false e) | false ↦ λ e. let h = occurs_none n xs e in omega arith ] e)

pub occurs_some : (n : ℕ) (xs : List ℕ) → is_in xs n ≡ true → 1 ≤ occurs n xs
occurs_some n [] e = absurd (false≢true e)
occurs_some n (x ∷ xs) e =
    rw occurs-cons
    (elim (x == n) as (λ b. cond b true (is_in xs n) ≡ true → 1 ≤ cond b 1 0 + occurs n xs)
    [ true ↦ λ e. omega arith | false ↦ λ e. let h = occurs_some n xs e in omega arith ] e)

-- pieces in two parts
pub occurs-flat_map-append : (n : ℕ) (f g : ℕ → List ℕ) (xs : List ℕ) → occurs n (flat_map (λ x. f x ++ g x) xs) ≡
    occurs n (flat_map f xs) + occurs n (flat_map g xs)
occurs-flat_map-append n f g [] = refl
occurs-flat_map-append n f g (x ∷ xs) =
    let h = occurs-flat_map-append n f g xs in
    simp occurs-append (omega arith)

-- pieces with the same members
pub occurs-flat_map-same : (n : ℕ) (f g : ℕ → List ℕ) → ((x : ℕ) → occurs n (f x) ≡ occurs n (g x)) → (xs : List ℕ)
    → occurs n (flat_map f xs) ≡ occurs n (flat_map g xs)
occurs-flat_map-same n f g e [] = refl
occurs-flat_map-same n f g e (x ∷ xs) =
    let h = occurs-flat_map-same n f g e xs in
    let k = e x in
    simp occurs-append (omega arith)

-- what holds of each member
pub occurs_all : (P : ℕ → Type 0) (n : ℕ) (xs : List ℕ) → All P xs → 1 ≤ occurs n xs → P n
occurs_all P n [] a h = absurd (omega arith)
occurs_all P n (x ∷ xs) a h =
    elim (cases_eq x n) [
      | inl e ↦ rw (← e) (All-head P x xs a)
      | inr e ↦
          let c : 1 ≤ cond (x == n) 1 0 + occurs n xs = rw (occurs-cons n x xs) at h in
          let d : 1 ≤ 0 + occurs n xs = rw (ne_eqb x n e) at c in
          occurs_all P n xs (All-tail P x xs a) (omega arith)
    ]
