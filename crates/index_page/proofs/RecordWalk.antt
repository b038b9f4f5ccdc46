-- Records that are met one after another.
use Rattle.std.proofs.Common.{◌≡◌, ℕ, zero, suc, ◌+◌, ◌-◌, ◌<◌, ◌≤◌, List, [], ◌∷◌, ◌++◌, length, get_or, All, refl}
use Rattle.std.proofs.Common.{sym, ap, ◌∙◌, subst, arith, add-one}
use Rattle.std.proofs.Common.{inl, inr}
use Rattle.std.proofs.lemmas.Bool.{cases_lt}
use Rattle.std.proofs.lemmas.List.Elements.{All-nil, All-cons, All-head, All-tail}
use Rattle.compact_record.specs.Header.{next_origin}
use Rattle.index_page.specs.Header.{record_at, records_from}

pub record_at_none : (page : List ℕ) (first : ℕ) → record_at page first 0 ≡ first
unfolding record_at
record_at_none page first = refl

pub record_at_more : (page : List ℕ) (first i : ℕ) → record_at page first (i + 1)
    ≡ next_origin page (record_at page first i)
unfolding record_at
record_at_more page first i = rw add-one refl

-- from the record behind, it is one step less
pub record_at_behind : (page : List ℕ) (first i : ℕ) → record_at page (next_origin page first) i
    ≡ record_at page first (i + 1)
unfolding record_at
record_at_behind page first zero = refl
record_at_behind page first (suc i) = rw add-one (ap (λ o. next_origin page o)
    (rw add-one at (record_at_behind page first i)))

-- in two parts
pub record_at_sum : (page : List ℕ) (first i j : ℕ) → record_at page (record_at page first i) j
    ≡ record_at page first (i + j)
unfolding record_at
record_at_sum page first i zero = let e : i + 0 ≡ i = omega arith in rw e refl
record_at_sum page first i (suc j) =
    let e : i + suc j ≡ suc (i + j) = omega arith in
    rw e (ap (λ o. next_origin page o) (record_at_sum page first i j))

pub length-records_from : (page : List ℕ) (first n : ℕ) → length (records_from page first n) ≡ n
unfolding records_from
length-records_from page first zero = refl
length-records_from page first (suc n) = ap suc (length-records_from page (next_origin page first) n)

pub get_or-records_from : (page : List ℕ) (first n k d : ℕ) → k < n
    → get_or (records_from page first n) k d ≡ record_at page first k
unfolding records_from
get_or-records_from page first zero k d below = absurd (omega arith)
get_or-records_from page first (suc n) zero d below = sym (record_at_none page first)
get_or-records_from page first (suc n) (suc k) d below =
    let e : suc k ≡ k + 1 = omega arith in
    get_or-records_from page (next_origin page first) n k d (omega arith) ∙ record_at_behind page first k
    ∙ ap (λ i. record_at page first i) (sym e)

-- one record more at the end
pub records_from_more : (page : List ℕ) (first n : ℕ) → records_from page first (n + 1)
    ≡ records_from page first n ++ record_at page first n ∷ []
unfolding records_from
records_from_more page first zero = ap (λ o. o ∷ []) (sym (record_at_none page first))
records_from_more page first (suc n) =
    let e : suc n + 1 ≡ suc (n + 1) = omega arith in
    let f : suc n ≡ n + 1 = omega arith in
    rw e (ap (λ (xs : List ℕ). first ∷ xs) (records_from_more page (next_origin page first) n
    ∙ ap (λ o. records_from page (next_origin page first) n ++ o ∷ []) (record_at_behind page first n
    ∙ ap (λ k. record_at page first k) (sym f))))

pub records_from_none : (page : List ℕ) (first : ℕ) → records_from page first 0 ≡ []
unfolding records_from
records_from_none page first = refl

pub records_from_suc : (page : List ℕ) (first n : ℕ) → records_from page first (n + 1)
    ≡ first ∷ records_from page (next_origin page first) n
unfolding records_from
records_from_suc page first n = rw add-one refl

-- what is left of a walk of n records after i of them
pub records_left : (page : List ℕ) (origin n i : ℕ) → i < n
    → records_from page origin (n - i) ≡ origin ∷ records_from page (next_origin page origin) (n - (i + 1))
records_left page origin n i below =
    let e : n - i ≡ (n - (i + 1)) + 1 = omega arith in
    rw e (records_from_suc page origin (n - (i + 1)))

pub records_left_none : (page : List ℕ) (origin n i : ℕ) → n ≤ i → records_from page origin (n - i) ≡ []
records_left_none page origin n i past =
    let e : n - i ≡ 0 = omega arith in
    rw e (records_from_none page origin)

-- what holds at each place holds of each record, and the other way round
pub All_of_places : (page : List ℕ) (P : ℕ → Type 0) (first n : ℕ) → ((k : ℕ) → k < n → P (record_at page first k))
    → All P (records_from page first n)
All_of_places page P first n each k d below =
    let in' : k < n = omega (arith, length-records_from page first n) in
    subst P (sym (get_or-records_from page first n k d in')) (each k in')

pub places_of_All : (page : List ℕ) (P : ℕ → Type 0) (first n : ℕ) → All P (records_from page first n) → (k : ℕ)
    → k < n → P (record_at page first k)
places_of_All page P first n all k below =
    subst P (get_or-records_from page first n k 0 below) (all k 0 (omega (arith, length-records_from page first n)))

-- what holds of two lists together, and what holds of both
pub All-front : (P : ℕ → Type 0) (xs ys : List ℕ) → All P (xs ++ ys) → All P xs
All-front P [] ys all = All-nil P
All-front P (x ∷ xs) ys all = All-cons P x xs (All-head P x (xs ++ ys) all)
    (All-front P xs ys (All-tail P x (xs ++ ys) all))

pub All-back : (P : ℕ → Type 0) (xs ys : List ℕ) → All P (xs ++ ys) → All P ys
All-back P [] ys all = all
All-back P (x ∷ xs) ys all = All-back P xs ys (All-tail P x (xs ++ ys) all)

-- a loop over a walk that looks for one fact: one place more, all places, one place of them
pub places_more : (page : List ℕ) (P : ℕ → Type 0) (first i origin : ℕ) → origin ≡ record_at page first i → P origin
    → ((k : ℕ) → k < i → P (record_at page first k))
    → (k : ℕ) → k < i + 1 → P (record_at page first k)
places_more page P first i origin place here before k below =
    elim (cases_lt k i) [
      | inl less ↦ before k less
      | inr more ↦ let e : k ≡ i = omega arith in subst P (place ∙ ap (λ j. record_at page first j) (sym e)) here
    ]

pub All_of_walk : (page : List ℕ) (P : ℕ → Type 0) (first n i : ℕ) → n ≤ i
    → ((k : ℕ) → k < i → P (record_at page first k)) → All P (records_from page first n)
All_of_walk page P first n i all each = All_of_places page P first n (λ k below. each k (omega arith))

pub All_at_place : (page : List ℕ) (P : ℕ → Type 0) (first n i origin : ℕ) → All P (records_from page first n)
    → origin ≡ record_at page first i → i < n → P origin
All_at_place page P first n i origin all place below = subst P (sym place) (places_of_All page P first n all i below)

-- under a name that a function's `using` may say
pub count_of_walk : (page : List ℕ) (first n : ℕ) → length (records_from page first n) ≡ n
count_of_walk page first n = length-records_from page first n

-- the same for a fact that speaks of the place's number too
pub numbered_more : (page : List ℕ) (P : ℕ → ℕ → Type 0) (first i origin : ℕ) → origin ≡ record_at page first i
    → P i origin → ((k : ℕ) → k < i → P k (record_at page first k))
    → (k : ℕ) → k < i + 1 → P k (record_at page first k)
numbered_more page P first i origin place here before k below =
    elim (cases_lt k i) [
      | inl less ↦ before k less
      | inr more ↦
          let e : i ≡ k = omega arith in
          let Q : ℕ → Type 0 = λ j. P j (record_at page first j) in
          subst Q e (subst (P i) place here)
    ]

pub numbered_all : (page : List ℕ) (P : ℕ → ℕ → Type 0) (first n i : ℕ) → n ≤ i
    → ((k : ℕ) → k < i → P k (record_at page first k))
    → (k : ℕ) → k < length (records_from page first n) → P k (get_or (records_from page first n) k 0)
numbered_all page P first n i all each k below =
    let in' : k < n = omega (arith, length-records_from page first n) in
    subst (P k) (sym (get_or-records_from page first n k 0 in')) (each k (omega arith))

pub numbered_at : (page : List ℕ) (P : ℕ → ℕ → Type 0) (first n i origin : ℕ)
    → ((k : ℕ) → k < length (records_from page first n) → P k (get_or (records_from page first n) k 0))
    → origin ≡ record_at page first i → i < n → P i origin
numbered_at page P first n i origin all place below =
    subst (P i) (get_or-records_from page first n i 0 below
    ∙ sym place) (all i (omega (arith, length-records_from page first n)))
