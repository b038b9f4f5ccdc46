-- What is decided: it holds, or it doesn't. Each way to put conditions together keeps that.
use Rattle.std.proofs.Common.{◌≡◌, ◌==◌, ℕ, zero, suc, ◌<◌, ◌≤◌, Bool, true, false, ◌⊎◌, List, [], ◌∷◌, length, get_or}
use Rattle.std.proofs.Common.{All}
use Rattle.std.proofs.Common.{ltb, bytes_eq, refl, sym, ap, subst, inl, inr, arith}
use Rattle.std.specs.Bool.{Decides}
use Rattle.std.specs.Cmp.Lexicographic.{pointwise}
use Rattle.std.specs.List.{AllPairs, Any, Contains}
use Rattle.std.proofs.lemmas.Bool.{false≢true, true≢false, cases_lt}
use Rattle.std.proofs.lemmas.Bool.Decides.{Decides-eqb, Decides-ltb}
use Rattle.std.proofs.lemmas.List.{get_or_default}
use Rattle.std.proofs.lemmas.List.Elements.{All-nil, All-cons, All-head, All-tail}
use Rattle.std.proofs.lemmas.Slice.Eq.{bytes_eq-Decides, slice_eq-Decides}
use Rattle.page_source.specs.Lists.{HaveSameMembers}

abbrev pub IsDecided : Type 0 → Type 0
IsDecided P = P ⊎ (¬ P)

-- by a test, and by what is so at the same time
pub test_decided : {P : Type 0} (r : Bool) → Decides r P → IsDecided P
test_decided true d = inl (d.0 refl)
test_decided false d = inr (λ p. false≢true (d.1 p))

pub same_decided : {P Q : Type 0} → (P → Q) → (Q → P) → IsDecided P → IsDecided Q
same_decided there back (inl p) = inl (there p)
same_decided there back (inr fails) = inr (λ q. fails (back q))

pub both_decided : {P Q : Type 0} → IsDecided P → IsDecided Q → IsDecided (P × Q)
both_decided (inl p) (inl q) = inl (p, q)
both_decided (inl p) (inr fails) = inr (λ h. fails h.1)
both_decided (inr fails) q = inr (λ h. fails h.0)

pub three_decided : {P Q R : Type 0} → IsDecided P → IsDecided Q → IsDecided R → IsDecided (P × Q × R)
three_decided (inl p) (inl q) (inl r) = inl (p, q, r)
three_decided (inl p) (inl q) (inr fails) = inr (λ h. fails h.2)
three_decided (inl p) (inr fails) r = inr (λ h. fails h.1)
three_decided (inr fails) q r = inr (λ h. fails h.0)

pub either_decided : {P Q : Type 0} → IsDecided P → IsDecided Q → IsDecided (P ⊎ Q)
either_decided (inl p) q = inl (inl p)
either_decided (inr fails) (inl q) = inl (inr q)
either_decided (inr fails) (inr none) = inr (λ h. elim h [ inl p ↦ fails p | inr q ↦ none q ])

pub not_decided : {P : Type 0} → IsDecided P → IsDecided (¬ P)
not_decided (inl p) = inr (λ fails. fails p)
not_decided (inr fails) = inl fails

pub given_decided : {P Q : Type 0} → IsDecided P → IsDecided Q → IsDecided (P → Q)
given_decided (inl p) (inl q) = inl (λ _. q)
given_decided (inl p) (inr fails) = inr (λ h. fails (h p))
given_decided (inr fails) q = inl (λ p. absurd (fails p))

-- numbers, truth values and texts
pub number_decided : (a b : ℕ) → IsDecided (a ≡ b)
number_decided a b = test_decided (a == b) (Decides-eqb a b)

pub below_decided : (a b : ℕ) → IsDecided (a < b)
below_decided a b = test_decided (ltb a b) (Decides-ltb a b)

pub most_decided : (a b : ℕ) → IsDecided (a ≤ b)
most_decided a b = same_decided (λ h. omega (arith, h)) (λ h. omega (arith, h)) (below_decided a (suc b))

pub truth_decided : (a b : Bool) → IsDecided (a ≡ b)
truth_decided true true = inl refl
truth_decided true false = inr true≢false
truth_decided false true = inr false≢true
truth_decided false false = inl refl

pub text_decided : (a b : List ℕ) → IsDecided (a ≡ b)
text_decided a b = test_decided (bytes_eq a b) (bytes_eq-Decides a b)

pub texts_decided : (a b : List (List ℕ)) → IsDecided (a ≡ b)
texts_decided a b = test_decided (pointwise bytes_eq a b) (slice_eq-Decides bytes_eq-Decides a b _ refl)

-- a condition on all members of a list, on some, and on all pairs
pub all_decided : {X : Type 0} (P : X → Type 0) → ((x : X) → IsDecided (P x)) → (xs : List X) → IsDecided (All P xs)
all_decided P each [] = inl (All-nil P)
all_decided P each (x ∷ xs) =
    same_decided (λ h. All-cons P x xs h.0 h.1) (λ h. (All-head P x xs h, All-tail P x xs h))
    (both_decided (each x) (all_decided P each xs))

any_split : {X : Type 0} (P : X → Type 0) (x : X) (xs : List X) (k : ℕ) (y : X) → k < suc (length xs)
    → get_or (x ∷ xs) k y ≡ y → P y → P x ⊎ Any P xs
any_split P x xs zero y within is holds = inl (subst P (sym is) holds)
any_split P x xs (suc k) y within is holds = inr (k, y, omega (arith, within), is, holds)

any_joined : {X : Type 0} (P : X → Type 0) (x : X) (xs : List X) → P x ⊎ Any P xs → Any P (x ∷ xs)
any_joined P x xs (inl holds) = (0, x, omega arith, refl, holds)
any_joined P x xs (inr h) = (suc h.0, h.1, omega (arith, h.2), h.3, h.4)

pub any_decided : {X : Type 0} (P : X → Type 0) → ((x : X) → IsDecided (P x)) → (xs : List X) → IsDecided (Any P xs)
any_decided P each [] = inr (λ h. omega (arith, h.2))
any_decided P each (x ∷ xs) =
    same_decided (any_joined P x xs) (λ h. any_split P x xs h.0 h.1 h.2 h.3 h.4)
    (either_decided (each x) (any_decided P each xs))

pairs_joined : {X : Type 0} (R : X → X → Type 0) (x : X) (xs : List X) → All (R x) xs → AllPairs R xs
    → AllPairs R (x ∷ xs)
pairs_joined R x xs first rest zero zero d a b = absurd (omega (arith, a))
pairs_joined R x xs first rest zero (suc j) d a b = first j d (omega (arith, b))
pairs_joined R x xs first rest (suc i) zero d a b = absurd (omega (arith, a))
pairs_joined R x xs first rest (suc i) (suc j) d a b = rest i j d (omega (arith, a)) (omega (arith, b))

pub pairs_decided : {X : Type 0} (R : X → X → Type 0) → ((x y : X) → IsDecided (R x y)) → (xs : List X)
    → IsDecided (AllPairs R xs)
pairs_decided R each [] = inl (λ i j d a b. absurd (omega (arith, b)))
pairs_decided R each (x ∷ xs) =
    same_decided (λ h. pairs_joined R x xs h.0 h.1)
    (λ h. (
      λ k d within. h 0 (suc k) d (omega arith) (omega (arith, within)),
      λ i j d a b. h (suc i) (suc j) d (omega (arith, a)) (omega (arith, b)),
    ))
    (both_decided (all_decided (R x) (each x) xs) (pairs_decided R each xs))

-- a condition on some number below a count
pub some_decided : (P : ℕ → Type 0) → ((n : ℕ) → IsDecided (P n)) → (count : ℕ)
    → IsDecided ((n : ℕ) × (n < count) × P n)
some_decided P each zero = inr (λ h. omega (arith, h.1))
some_decided P each (suc count) = by_last (each count) (some_decided P each count)
  where
    by_last : IsDecided (P count) → IsDecided ((n : ℕ) × (n < count) × P n)
        → IsDecided ((n : ℕ) × (n < suc count) × P n)
    by_last (inl p) rest = inl (count, omega arith, p)
    by_last (inr fails) (inl h) = inl (h.0, omega (arith, h.1), h.2)
    by_last (inr fails) (inr none) =
        inr (λ h. elim (cases_lt h.0 count) [
          | inl below ↦ none (h.0, below, h.2)
          | inr above ↦ fails (subst P (omega (arith, above, h.1)) h.2)
        ])

-- a number's being a member of a list, and that two lists have the same members
pub contains_decided : (xs : List ℕ) (n : ℕ) → IsDecided (Contains xs n)
contains_decided xs n = some_decided (λ k. get_or xs k n ≡ n) (λ k. number_decided (get_or xs k n) n) (length xs)

members_within : (xs ys : List ℕ) → All (Contains ys) xs → (n : ℕ) → Contains xs n → Contains ys n
members_within xs ys all n c = subst (Contains ys) c.2 (all c.0 n c.1)

within_members : (xs ys : List ℕ) → ((n : ℕ) → Contains xs n → Contains ys n) → All (Contains ys) xs
within_members xs ys each k d within =
    each (get_or xs k d) (k, within, get_or_default xs k (get_or xs k d) d within)

pub members_decided : (xs ys : List ℕ) → IsDecided (HaveSameMembers xs ys)
members_decided xs ys =
    same_decided (λ h n. (members_within xs ys h.0 n, members_within ys xs h.1 n))
    (λ h. (within_members xs ys (λ n. (h n).0), within_members ys xs (λ n. (h n).1)))
    (both_decided (all_decided (Contains ys) (contains_decided ys) xs)
    (all_decided (Contains xs) (contains_decided xs) ys))

-- a condition on some list of so many numbers below a bound
abbrev pub SomeList : (List ℕ → Type 0) → ℕ → ℕ → Type 0
SomeList P bound size = (xs : List ℕ) × (length xs ≡ size) × All (λ x. x < bound) xs × P xs

none_listed : (P : List ℕ → Type 0) (xs : List ℕ) → length xs ≡ 0 → P xs → P []
none_listed P [] size p = p
none_listed P (x ∷ xs) size p = absurd (omega (arith, size))

first_listed : (P : List ℕ → Type 0) (bound size : ℕ) (xs : List ℕ) → length xs ≡ suc size
    → All (λ x. x < bound) xs → P xs → (n : ℕ) × (n < bound) × SomeList (λ rest. P (n ∷ rest)) bound size
first_listed P bound size [] is all p = absurd (omega (arith, is))
first_listed P bound size (x ∷ xs) is all p =
    (x, All-head (λ y. y < bound) x xs all, (xs, omega (arith, is), All-tail (λ y. y < bound) x xs all, p))

pub list_decided : (P : List ℕ → Type 0) → ((xs : List ℕ) → IsDecided (P xs)) → (bound size : ℕ)
    → IsDecided (SomeList P bound size)
list_decided P each bound zero =
    same_decided (λ p. ([], refl, All-nil (λ x. x < bound), p)) (λ h. none_listed P h.0 h.1 h.3) (each [])
list_decided P each bound (suc size) =
    same_decided
    (λ h. (h.0 ∷ h.2.0, ap suc h.2.1, All-cons (λ x. x < bound) h.0 h.2.0 h.1 h.2.2, h.2.3))
    (λ h. first_listed P bound size h.0 h.1 h.2 h.3)
    (some_decided (λ n. SomeList (λ rest. P (n ∷ rest)) bound size)
    (λ n. list_decided (λ rest. P (n ∷ rest)) (λ rest. each (n ∷ rest)) bound size) bound)

-- a condition on every number below a count
pub every_decided : (P : ℕ → Type 0) → ((n : ℕ) → IsDecided (P n)) → (count : ℕ) → IsDecided ((n : ℕ) → n < count → P n)
every_decided P each zero = inl (λ n below. absurd (omega (arith, below)))
every_decided P each (suc count) =
    same_decided
    (λ h n below.
    elim (cases_lt n count) [
      | inl less ↦ h.0 n less
      | inr more ↦ subst P (omega (arith, below, more)) h.1
    ])
    (λ h. (λ n below. h n (omega (arith, below)), h count (omega arith)))
    (both_decided (every_decided P each count) (each count))
