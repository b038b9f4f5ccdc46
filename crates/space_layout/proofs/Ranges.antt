-- Lists over a range of numbers.
use Rattle.std.proofs.Common.{◌≡◌, ℕ, zero, suc, ◌+◌, ◌-◌, ◌<◌, ◌≤◌, Bool, true, false, cond, List, [], ◌∷◌, ◌++◌}
use Rattle.std.proofs.Common.{map, filter, flat_map, slice_get, sum_by, All, Contains, Some}
use Rattle.std.proofs.Common.{inl, inr, refl, sym, ap, ◌∙◌, subst, arith}
use Rattle.std.specs.List.{range_with_len}
use Rattle.std.proofs.lemmas.List.FromFn.{length-map-range_with_len, get_or-map-range_with_len}
use Rattle.std.proofs.lemmas.List.Sums.{sum_by-cons}
use Rattle.std.proofs.lemmas.List.Elements.{Contains-append_cases}
use Rattle.page_source.specs.Lists.{AreDistinct}
use Rattle.page_source.proofs.Members.{contains_none, contains_cases, contains_there, contains_here, contains_flat_map}
use Rattle.page_source.proofs.Members.{distinct_none, distinct_cons, distinct_head, distinct_tail, range_only}

-- what is so for each number is so for each member
pub all_from_range : {X : Type 0} (P : X → Type 0) (f : ℕ → X) (a n : ℕ) → ((s : ℕ) → a ≤ s → s < a + n → P (f s))
    → All P (map f (range_with_len a n))
all_from_range P f a n h k d l =
    let size = length-map-range_with_len f a n in
    let inside : k < n = omega arith in
    subst P (sym (get_or-map-range_with_len f a n k (a + k) d inside refl)) (h (a + k) (omega arith) (omega arith))

-- the numbers whose images are the following ones
pub map_next : {X : Type 0} (f : ℕ → X) (g : X → ℕ) (a n : ℕ) → ((s : ℕ) → a ≤ s → s < a + n → g (f s) ≡ s + 1)
    → map g (map f (range_with_len a n)) ≡ range_with_len (a + 1) n
map_next f g a zero h = refl
map_next f g a (suc n) h =
    let here = h a (omega arith) (omega arith) in
    rw here (ap (λ (xs : List ℕ). (a + 1) ∷ xs) (map_next f g (a + 1) n (λ s l r. h s (omega arith) (omega arith))))

-- a member of a list over a range
pub record FromRange {X : Type 0} (f : ℕ → X) (a n : ℕ) (x : X) : Type 0 where
  pub at : ℕ
  pub low : a ≤ at
  pub high : at < a + n
  pub there : f at ≡ x

pub from_range : {X : Type 0} (f : ℕ → X) (a n : ℕ) (x : X) → Contains (map f (range_with_len a n)) x
    → FromRange f a n x
from_range f a zero x c = absurd (contains_none x c)
from_range f a (suc n) x c = elim (contains_cases (f a) (map f (range_with_len (a + 1) n)) x c) [
  | inl e ↦ record { at = a; low = omega arith; high = omega arith; there = e }
  | inr k ↦ let r = from_range f (a + 1) n x k in
      record { at = r.at; low = omega (arith, r.low); high = omega (arith, r.high); there = r.there }
]

pub in_range : {X : Type 0} (f : ℕ → X) (a n i : ℕ) → a ≤ i → i < a + n → Contains (map f (range_with_len a n)) (f i)
in_range f a n i low high =
    let k = i - a in
    let e : a + k ≡ i = omega arith in (
      k,
      (let size = length-map-range_with_len f a n in omega arith),
      get_or-map-range_with_len f a n k i (f i) (omega arith) e,
    )

-- different images of different numbers
pub distinct_images : (f : ℕ → ℕ) (a n : ℕ)
    → ((i j : ℕ) → a ≤ i → i < a + n → a ≤ j → j < a + n → f i ≡ f j → i ≡ j)
    → AreDistinct (map f (range_with_len a n))
distinct_images f a zero h = distinct_none
distinct_images f a (suc n) h =
    distinct_cons (f a) (map f (range_with_len (a + 1) n))
    (λ c. let r = from_range f (a + 1) n (f a) c in
    let low = r.low in let high = r.high in
    let e = h r.at a (omega arith) (omega arith) (omega arith) (omega arith) r.there in absurd (omega arith))
    (distinct_images f (a + 1) n (λ i j l m o p. h i j (omega arith) (omega arith) (omega arith) (omega arith)))

pub distinct_append : (xs ys : List ℕ) → AreDistinct xs → AreDistinct ys
    → ((x : ℕ) → Contains xs x → Contains ys x → ⊥) → AreDistinct (xs ++ ys)
distinct_append [] ys d e h = e
distinct_append (x ∷ xs) ys d e h =
    distinct_cons x (xs ++ ys)
    (λ c. elim (Contains-append_cases xs ys x c) [
      | inl here ↦ distinct_head x xs d here
      | inr there ↦ h x (contains_here x xs) there
    ])
    (distinct_append xs ys (distinct_tail x xs d) e (λ y p q. h y (contains_there x xs y p) q))

-- pieces that have no member in common
pub distinct_pieces : (f : ℕ → List ℕ) (a n : ℕ) → ((s : ℕ) → a ≤ s → s < a + n → AreDistinct (f s))
    → ((s t x : ℕ) → a ≤ s → s < a + n → a ≤ t → t < a + n → Contains (f s) x → Contains (f t) x → s ≡ t)
    → AreDistinct (flat_map f (range_with_len a n))
distinct_pieces f a zero each apart = distinct_none
distinct_pieces f a (suc n) each apart =
    distinct_append (f a) (flat_map f (range_with_len (a + 1) n)) (each a (omega arith) (omega arith))
    (distinct_pieces f (a + 1) n (λ s l m. each s (omega arith) (omega arith))
    (λ s t x l m o p. apart s t x (omega arith) (omega arith) (omega arith) (omega arith)))
    (λ x here there.
    let r = contains_flat_map f (range_with_len (a + 1) n) x there in
    let b = range_only (a + 1) n r.piece r.among in
    let low = b.0 in let high = b.1 in
    let e = apart a r.piece x (omega arith) (omega arith) (omega arith) (omega arith) here r.member in
    absurd (omega arith))

-- pieces over the images of a range
pub pieces_same : {X : Type 0} (f : X → List ℕ) (g : ℕ → X) (h : ℕ → List ℕ) (a n : ℕ)
    → ((s : ℕ) → a ≤ s → s < a + n → f (g s) ≡ h s)
    → flat_map f (map g (range_with_len a n)) ≡ flat_map h (range_with_len a n)
pieces_same f g h a zero same = refl
pieces_same f g h a (suc n) same =
    ap (λ (xs : List ℕ). xs ++ flat_map f (map g (range_with_len (a + 1) n))) (same a (omega arith) (omega arith))
    ∙ ap (λ (xs : List ℕ). h a ++ xs) (pieces_same f g h (a + 1) n (λ s l m. same s (omega arith) (omega arith)))

-- what a test keeps of images
pub filter_images : (p : ℕ → Bool) (f : ℕ → ℕ) (xs : List ℕ) → filter p (map f xs) ≡ map f (filter (λ i. p (f i)) xs)
filter_images p f [] = refl
filter_images p f (x ∷ xs) =
    elim (p (f x)) as (λ (b : Bool). cond b (f x ∷ filter p (map f xs)) (filter p (map f xs))
    ≡ map f (cond b (x ∷ filter (λ i. p (f i)) xs) (filter (λ i. p (f i)) xs))) [
      | true ↦ ap (λ (ys : List ℕ). f x ∷ ys) (filter_images p f xs)
      | false ↦ filter_images p f xs
    ]

-- the sum over at most one number
pub sum_few : (f : ℕ → ℕ) (a n c : ℕ) → n ≤ 1 → (n ≡ 0 → c ≡ 0) → (n ≡ 1 → f a ≡ c) → sum_by f (range_with_len a n) ≡ c
sum_few f a zero c few none one = sym (none refl)
sum_few f a (suc zero) c few none one = sum_by-cons f a [] ∙ (let e = one refl in omega arith)
sum_few f a (suc (suc n)) c few none one = absurd (omega arith)

pub get_from_range : {X : Type 0} (f : ℕ → X) (a n s : ℕ) → s < n → slice_get (map f (range_with_len a n)) s
    ≡ Some (f (a + s))
get_from_range f a zero s l = absurd (omega arith)
get_from_range f a (suc n) zero l = ap (λ (k : ℕ). Some (f k)) (omega arith)
get_from_range f a (suc n) (suc s) l =
    get_from_range f (a + 1) n s (omega arith) ∙ ap (λ (k : ℕ). Some (f k)) (omega arith)

-- two functions that agree on a range
pub map_same : (f g : ℕ → ℕ) (a n : ℕ) → ((i : ℕ) → a ≤ i → i < a + n → f i ≡ g i)
    → map f (range_with_len a n) ≡ map g (range_with_len a n)
map_same f g a zero h = refl
map_same f g a (suc n) h =
    ap (λ (x : ℕ). x ∷ map f (range_with_len (a + 1) n)) (h a (omega arith) (omega arith))
    ∙ ap (λ (xs : List ℕ). g a ∷ xs) (map_same f g (a + 1) n (λ i l m. h i (omega arith) (omega arith)))

-- and a sum of what is the same
pub sum_same : (f g : ℕ → ℕ) (a n : ℕ) → ((i : ℕ) → a ≤ i → i < a + n → f i ≡ g i)
    → sum_by f (range_with_len a n) ≡ sum_by g (range_with_len a n)
sum_same f g a zero same = refl
sum_same f g a (suc n) same =
    let here = same a (omega arith) (omega arith) in
    let rest = sum_same f g (a + 1) n (λ i low high. same i (omega arith) (omega arith)) in
    let one = sum_by-cons f a (range_with_len (a + 1) n) in
    let other = sum_by-cons g a (range_with_len (a + 1) n) in
    omega arith
