-- How often a number comes in a list.
use Rattle.std.proofs.Common.{◌≡◌, ℕ, ◌+◌, ◌<◌, Bool, true, false, cond, eqb, List, [], ◌∷◌, ◌++◌, map, Contains}
use Rattle.std.proofs.Common.{filter, flat_map, sum_by, refl, sym, ◌∙◌, ap, subst, inl, inr, arith, zero-add}
use Rattle.std.proofs.lemmas.List.Sums.{sum_by-cons, sum_by-append}
use Rattle.std.proofs.lemmas.Bool.Decides.{Decides-eqb, eqb_tells}
use Rattle.page_source.specs.Lists.{AreDistinct, times_in}
use Rattle.page_source.proofs.Members.{contains_none, contains_here, contains_there, contains_cases, distinct_head}
use Rattle.page_source.proofs.Members.{distinct_tail}

-- 1 where a test holds, else 0
abbrev pub one_if : Bool → ℕ
one_if b = cond b 1 0

pub times_cons : (x : ℕ) (xs : List ℕ) (n : ℕ) → times_in (x ∷ xs) n ≡ one_if (eqb x n) + times_in xs n
times_cons x xs n = sum_by-cons (λ m. one_if (eqb m n)) x xs

pub times_append : (xs ys : List ℕ) (n : ℕ) → times_in (xs ++ ys) n ≡ times_in xs n + times_in ys n
times_append xs ys n = sum_by-append (λ m. one_if (eqb m n)) xs ys

pub times_flat_map : {X : Type 0} (f : X → List ℕ) (xs : List X) (n : ℕ)
    → times_in (flat_map f xs) n ≡ sum_by (λ x. times_in (f x) n) xs
times_flat_map f [] n = refl
times_flat_map f (x ∷ xs) n = times_append (f x) (flat_map f xs) n
    ∙ (ap (λ k. times_in (f x) n + k) (times_flat_map f xs n) ∙ sym (sum_by-cons (λ y. times_in (f y) n) x xs))

pub sum_by_same : {X : Type 0} (f g : X → ℕ) → ((x : X) → f x ≡ g x) → (xs : List X) → sum_by f xs ≡ sum_by g xs
sum_by_same f g h [] = refl
sum_by_same f g h (x ∷ xs) = sum_by-cons f x xs
    ∙ (ap (λ k. f x + k) (sum_by_same f g h xs) ∙ (ap (λ k. k + sum_by g xs) (h x) ∙ sym (sum_by-cons g x xs)))

pub sum_by_none : {X : Type 0} (f : X → ℕ) → ((x : X) → f x ≡ 0) → (xs : List X) → sum_by f xs ≡ 0
sum_by_none f h [] = refl
sum_by_none f h (x ∷ xs) = let e = h x in let r = sum_by_none f h xs in let s = sum_by-cons f x xs in omega arith

pub sum_by_plus : {X : Type 0} (f g : X → ℕ) (xs : List X) → sum_by (λ x. f x + g x) xs ≡ sum_by f xs + sum_by g xs
sum_by_plus f g [] = refl
sum_by_plus f g (x ∷ xs) = let a = sum_by-cons (λ y. f y + g y) x xs in let b = sum_by-cons f x xs in let c =
    sum_by-cons g x xs in let r = sum_by_plus f g xs in omega arith

pub times_map : {X : Type 0} (f : X → ℕ) (xs : List X) (n : ℕ)
    → times_in (map f xs) n ≡ sum_by (λ x. one_if (eqb (f x) n)) xs
times_map f [] n = refl
times_map f (x ∷ xs) n = times_cons (f x) (map f xs) n
    ∙ (ap (λ k. one_if (eqb (f x) n) + k) (times_map f xs n) ∙ sym (sum_by-cons (λ y. one_if (eqb (f y) n)) x xs))

pub times_none : (xs : List ℕ) (n : ℕ) → ¬ (Contains xs n) → times_in xs n ≡ 0
times_none [] n h = refl
times_none (x ∷ xs) n h = elim (eqb_tells x n) [
  | inl q ↦ absurd (h (subst (λ k. Contains (x ∷ xs) k) q.1 (contains_here x xs)))
  | inr q ↦ times_cons x xs n ∙ rw q.0 (zero-add (times_in xs n) ∙ times_none xs n (λ c. h (contains_there x xs n c)))
]

pub contains_times : (xs : List ℕ) (n : ℕ) → 0 < times_in xs n → Contains xs n
contains_times [] n h = absurd (omega arith)
contains_times (x ∷ xs) n h = elim (eqb_tells x n) [
  | inl q ↦ subst (λ k. Contains (x ∷ xs) k) q.1 (contains_here x xs)
  | inr q ↦ contains_there x xs n (contains_times xs n
      (subst (λ k. 0 < k) (times_cons x xs n ∙ rw q.0 (zero-add (times_in xs n))) h))
]

pub times_some : (xs : List ℕ) (n : ℕ) → Contains xs n → 0 < times_in xs n
times_some [] n h = absurd (contains_none n h)
times_some (x ∷ xs) n h = elim (contains_cases x xs n h) [
  | inl e ↦ let t : eqb x n ≡ true = (Decides-eqb x n).1 e in let s : times_in (x ∷ xs) n ≡ 1 + times_in xs n =
      times_cons x xs n ∙ ap (λ b. one_if b + times_in xs n) t in omega arith
  | inr k ↦ let r = times_some xs n k in let s = times_cons x xs n in omega arith
]

pub times_once : (xs : List ℕ) (n : ℕ) → AreDistinct xs → Contains xs n → times_in xs n ≡ 1
times_once [] n d h = absurd (contains_none n h)
times_once (x ∷ xs) n d h = elim (eqb_tells x n) [
  | inl q ↦ times_cons x xs n ∙ rw q.0 (ap (λ k. 1 + k)
      (times_none xs n (λ c. distinct_head x xs d (subst (λ k. Contains xs k) (sym q.1) c))))
  | inr q ↦ times_cons x xs n ∙ rw q.0 (zero-add (times_in xs n)
      ∙ times_once xs n (distinct_tail x xs d) (elim (contains_cases x xs n h) [ inl e ↦ absurd (q.1 e) | inr k ↦ k ]))
]

-- a filter keeps all of a number or none
times_filter_here : (p : ℕ → Bool) (x : ℕ) (xs : List ℕ) (n : ℕ) → eqb x n ≡ true → p x ≡ p n → (b : Bool) → p n ≡ b
    → times_in (filter p xs) n ≡ cond b (times_in xs n) 0
    → times_in (cond b (x ∷ filter p xs) (filter p xs)) n ≡ cond b (times_in (x ∷ xs) n) 0
times_filter_here p x xs n t e true f h = times_cons x (filter p xs) n
    ∙ (ap (λ k. one_if (eqb x n) + k) h ∙ sym (times_cons x xs n))
times_filter_here p x xs n t e false f h = h

times_filter_other : (p : ℕ → Bool) (x : ℕ) (xs : List ℕ) (n : ℕ) → eqb x n ≡ false → (a b : Bool)
    → times_in (filter p xs) n ≡ cond b (times_in xs n) 0
    → times_in (cond a (x ∷ filter p xs) (filter p xs)) n ≡ cond b (times_in (x ∷ xs) n) 0
times_filter_other p x xs n t true b h = (times_cons x (filter p xs) n ∙ rw t (zero-add (times_in (filter p xs) n)))
    ∙ (h ∙ ap (λ k. cond b k 0) (sym (times_cons x xs n ∙ rw t (zero-add (times_in xs n)))))
times_filter_other p x xs n t false b h = h
    ∙ ap (λ k. cond b k 0) (sym (times_cons x xs n ∙ rw t (zero-add (times_in xs n))))

pub times_filter : (p : ℕ → Bool) (xs : List ℕ) (n : ℕ) → times_in (filter p xs) n ≡ cond (p n) (times_in xs n) 0
times_filter p [] n = elim (p n) as (λ (b : Bool). times_in [] n ≡ cond b (times_in [] n) 0) [
  | true ↦ refl
  | false ↦
      refl
]
times_filter p (x ∷ xs) n = elim (eqb_tells x n) [
  | inl q ↦ let e : p x ≡ p n = ap p q.1 in rw e (times_filter_here p x xs n q.0 e (p n) refl (times_filter p xs n))
  | inr q ↦ times_filter_other p x xs n q.0 (p x) (p n) (times_filter p xs n)
]
