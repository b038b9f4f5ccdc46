-- Members of lists by recursion, lists without repeat, and how many members they can have.
use Rattle.std.proofs.Common.{◌≡◌, ◌≢◌, ◌⊎◌, ℕ, zero, suc, ◌+◌, ◌<◌, ◌≤◌, Bool, true, false, cond, not, eqb, List, []}
use Rattle.std.proofs.Common.{◌∷◌, ◌++◌, length, get_or, All, Contains, filter, flat_map, refl, sym, ◌∙◌, ap, subst}
use Rattle.std.proofs.Common.{inl, inr, arith, add-one, add-zero, zero-add, length-append, append-nil}
use Rattle.std.proofs.lemmas.List.Elements.{All-contains, filter-append, Contains-append_cases, Contains-append_left}
use Rattle.std.proofs.lemmas.List.Elements.{Contains-append_right, Contains-get_or}
use Rattle.std.specs.List.{range_with_len}
use Rattle.std.proofs.lemmas.List.FromFn.{length-range_with_len}
use Rattle.std.proofs.lemmas.Bool.Decides.{Decides-eqb, eqb_tells}
use Rattle.page_source.specs.Lists.{AreDistinct, HaveSameMembers}

pub contains_none : {X : Type 0} (x : X) → ¬ (Contains [] x)
contains_none x h = absurd (omega (arith, h.1))

pub contains_here : {X : Type 0} (x : X) (xs : List X) → Contains (x ∷ xs) x
contains_here x xs = (0, omega arith, refl)

pub contains_there : {X : Type 0} (x : X) (xs : List X) (y : X) → Contains xs y → Contains (x ∷ xs) y
contains_there x xs y h = (suc h.0, omega (arith, h.1), h.2)

place_cases : {X : Type 0} (x : X) (xs : List X) (y : X) (k : ℕ) → k < length (x ∷ xs) → get_or (x ∷ xs) k y ≡ y
    → (x ≡ y) ⊎ Contains xs y
place_cases x xs y zero h e = inl e
place_cases x xs y (suc k) h e = inr (k, omega arith, e)

pub contains_cases : {X : Type 0} (x : X) (xs : List X) (y : X) → Contains (x ∷ xs) y → (x ≡ y) ⊎ Contains xs y
contains_cases x xs y h = place_cases x xs y h.0 h.1 h.2

-- no number comes twice
pub distinct_none : AreDistinct []
distinct_none i j d h k = absurd (omega (arith, k))

pub distinct_head : (x : ℕ) (xs : List ℕ) → AreDistinct (x ∷ xs) → ¬ (Contains xs x)
distinct_head x xs h c = h 0 (suc c.0) x (omega arith) (omega (arith, c.1)) (sym c.2)

pub distinct_tail : (x : ℕ) (xs : List ℕ) → AreDistinct (x ∷ xs) → AreDistinct xs
distinct_tail x xs h i j d l m = h (suc i) (suc j) d (omega arith) (omega arith)

get_same : (xs : List ℕ) (k : ℕ) (d e : ℕ) → k < length xs → get_or xs k d ≡ get_or xs k e
get_same [] k d e h = absurd (omega arith)
get_same (x ∷ xs) zero d e h = refl
get_same (x ∷ xs) (suc k) d e h = get_same xs k d e (omega arith)

distinct_at : (x : ℕ) (xs : List ℕ) → ¬ (Contains xs x) → AreDistinct xs → (i j d : ℕ) → i < j → j < length (x ∷ xs)
    → get_or (x ∷ xs) i d ≢ get_or (x ∷ xs) j d
distinct_at x xs n h i zero d l m e = absurd (omega arith)
distinct_at x xs n h zero (suc j) d l m e = n (j, omega arith, get_same xs j x d (omega arith) ∙ sym e)
distinct_at x xs n h (suc i) (suc j) d l m e = h i j d (omega arith) (omega arith) e

pub distinct_cons : (x : ℕ) (xs : List ℕ) → ¬ (Contains xs x) → AreDistinct xs → AreDistinct (x ∷ xs)
distinct_cons x xs n h = distinct_at x xs n h

-- a list without one number
abbrev without : ℕ → List ℕ → List ℕ
without x xs = filter (λ y. not (eqb y x)) xs

without_length : (x : ℕ) (ys : List ℕ) → length (without x ys) ≤ length ys
without_length x [] = omega arith
without_length x (y ∷ ys) = elim (eqb y x) as (λ b. length (cond (not b) (y ∷ without x ys) (without x ys)) ≤ length
    (y ∷ ys)) [ true ↦ omega (arith, without_length x ys) | false ↦ omega (arith, without_length x ys) ]

without_less : (x : ℕ) (ys : List ℕ) → Contains ys x → suc (length (without x ys)) ≤ length ys
without_less x [] h = absurd (contains_none x h)
without_less x (y ∷ ys) h = elim (contains_cases y ys x h) [
  | inl e ↦ let t : eqb y x ≡ true = (Decides-eqb y x).1 e in rw t (omega (arith, without_length x ys))
  | inr k ↦ elim (eqb y x) as (λ b. suc (length (cond (not b) (y ∷ without x ys) (without x ys))) ≤ length
      (y ∷ ys)) [ true ↦ omega (arith, without_less x ys k) | false ↦ omega (arith, without_less x ys k) ]
]

-- what passes a test stands in the filtered list, and only that
pub contains_filter : {X : Type 0} (p : X → Bool) (ys : List X) (z : X) → Contains ys z → p z ≡ true
    → Contains (filter p ys) z
contains_filter p [] z h e = absurd (contains_none z h)
contains_filter {X = X} p (y ∷ ys) z h e = elim (contains_cases y ys z h) [
  | inl q ↦ let t : p y ≡ true = ap p q ∙ e in
      rw t (subst (λ w. Contains (y ∷ filter p ys) w) q (contains_here y (filter p ys)))
  | inr k ↦ elim (p y) as (λ b. Contains (cond b (y ∷ filter p ys) (filter p ys)) z) [
    | true ↦
        contains_there y (filter p ys) z (contains_filter p ys z k e)
    | false ↦ contains_filter p ys z k e
  ]
]

-- a list without repeat in another one isn't the longer one
pub distinct_fits : (xs ys : List ℕ) → AreDistinct xs → ((n : ℕ) → Contains xs n → Contains ys n)
    → length xs ≤ length ys
distinct_fits [] ys d h = omega arith
distinct_fits (x ∷ xs) ys d h =
    let less : suc (length (without x ys)) ≤ length ys = without_less x ys (h x (contains_here x xs)) in
    let rest : length xs ≤ length (without x ys) =
    distinct_fits xs (without x ys) (distinct_tail x xs d) (λ n c.
    contains_filter (λ y. not (eqb y x)) ys n (h n (contains_there x xs n c))
    (elim (eqb_tells n x) [
      | inl q ↦ absurd (distinct_head x xs d (subst (λ m. Contains xs m) q.1 c))
      | inr q ↦
          ap not q.0
    ])) in
    omega arith

is_member : (xs : List ℕ) (n : ℕ) → Contains xs n ⊎ (¬ (Contains xs n))
is_member [] n = inr (contains_none n)
is_member (x ∷ xs) n = elim (eqb_tells x n) [
  | inl q ↦ inl (rw q.1 (contains_here n xs))
  | inr q ↦ elim (is_member xs n) [
    | inl c ↦ inl (contains_there x xs n c)
    | inr m ↦
        inr (λ c. elim (contains_cases x xs n c) [ inl e ↦ q.1 e | inr k ↦ m k ])
  ]
]

-- a list without repeat in another one that is no longer has all of its members
pub distinct_fills : (xs ys : List ℕ) → AreDistinct xs → ((n : ℕ) → Contains xs n → Contains ys n)
    → length ys ≤ length xs → (n : ℕ) → Contains ys n → Contains xs n
distinct_fills xs ys d h l n c = elim (is_member xs n) [
  | inl m ↦ m
  | inr m ↦ absurd (let more : suc (length xs) ≤ length ys = distinct_fits (n ∷ xs) ys (distinct_cons n xs m d)
      (λ z k. elim (contains_cases n xs z k) [ inl e ↦ subst (λ w. Contains ys w) e c | inr q ↦ h z q ]) in omega arith)
]

-- the numbers of a range
pub range_has : (a n k : ℕ) → a ≤ k → k < a + n → Contains (range_with_len a n) k
range_has a zero k h l = absurd (omega arith)
range_has a (suc n) k h l = elim (eqb_tells a k) [
  | inl q ↦ subst (λ z. Contains (a ∷ range_with_len (a + 1) n) z) q.1 (contains_here a (range_with_len (a + 1) n))
  | inr q ↦ contains_there a (range_with_len (a + 1) n) k (range_has (a + 1) n k (omega (arith, q.1)) (omega arith))
]

pub contains_range : (n k : ℕ) → k < n → Contains (range_with_len 0 n) k
contains_range n k h = range_has 0 n k (omega arith) (omega arith)

pub range_only : (a n k : ℕ) → Contains (range_with_len a n) k → (a ≤ k) × (k < a + n)
range_only a zero k h = absurd (contains_none k h)
range_only a (suc n) k h = elim (contains_cases a (range_with_len (a + 1) n) k h) [
  | inl e ↦ (omega arith, omega arith)
  | inr c ↦ let r = range_only (a + 1) n k c in (omega (arith, r.0), omega (arith, r.1))
]

pub range_contains : (n k : ℕ) → Contains (range_with_len 0 n) k → k < n
range_contains n k h = let r = range_only 0 n k h in omega (arith, r.1)

-- so many different numbers below a bound are at most the bound
pub distinct_below : (xs : List ℕ) (n : ℕ) → AreDistinct xs → All (λ x. x < n) xs → length xs ≤ n
distinct_below xs n d h =
    subst (λ m. length xs ≤ m) (length-range_with_len 0 n)
    (distinct_fits xs (range_with_len 0 n) d (λ k c. contains_range n k (All-contains (λ x. x < n) xs k h c)))

-- and nothing else does
filter_step : {X : Type 0} (p : X → Bool) (b : Bool) (y : X) (ys : List X) (z : X) → p y ≡ b
    → Contains (cond b (y ∷ filter p ys) (filter p ys)) z
    → (Contains (filter p ys) z → Contains ys z × (p z ≡ true)) → Contains (y ∷ ys) z × (p z ≡ true)
filter_step p true y ys z e h rest = elim (contains_cases y (filter p ys) z h) [
  | inl q ↦ (subst (λ w. Contains (y ∷ ys) w) q (contains_here y ys), ap p (sym q) ∙ e)
  | inr k ↦ let r = rest k in (contains_there y ys z r.0, r.1)
]
filter_step p false y ys z e h rest = let r = rest h in (contains_there y ys z r.0, r.1)

pub filter_contains : {X : Type 0} (p : X → Bool) (ys : List X) (z : X) → Contains (filter p ys) z
    → Contains ys z × (p z ≡ true)
filter_contains p [] z h = absurd (contains_none z h)
filter_contains p (y ∷ ys) z h = filter_step p (p y) y ys z refl h (filter_contains p ys z)

pub distinct_filter : (p : ℕ → Bool) (ys : List ℕ) → AreDistinct ys → AreDistinct (filter p ys)
distinct_filter p [] d = distinct_none
distinct_filter p (y ∷ ys) d =
    let rest : AreDistinct (filter p ys) = distinct_filter p ys (distinct_tail y ys d) in
    elim (p y) as (λ b. AreDistinct (cond b (y ∷ filter p ys) (filter p ys))) [
      | true ↦ distinct_cons y (filter p ys) (λ c. distinct_head y ys d (filter_contains p ys y c).0) rest
      | false ↦ rest
    ]

pub range_distinct : (a n : ℕ) → AreDistinct (range_with_len a n)
range_distinct a zero = distinct_none
range_distinct a (suc n) = distinct_cons a (range_with_len (a + 1) n) (λ c. let r = range_only (a + 1) n a c in
    absurd (omega (arith, r.0))) (range_distinct (a + 1) n)

pub distinct_range : (n : ℕ) → AreDistinct (range_with_len 0 n)
distinct_range n = range_distinct 0 n

-- lists without repeat and with the same members have one length
pub same_length : (xs ys : List ℕ) → AreDistinct xs → AreDistinct ys → HaveSameMembers xs ys → length xs ≡ length ys
same_length xs ys d e h =
    let there : length xs ≤ length ys = distinct_fits xs ys d (λ n c. (h n).0 c) in
    let back : length ys ≤ length xs = distinct_fits ys xs e (λ n c. (h n).1 c) in
    omega arith

-- a list without repeat in another has the same members where it has the same length
pub same_members : (xs ys : List ℕ) → AreDistinct xs → ((n : ℕ) → Contains xs n → Contains ys n) → length xs ≡ length ys
    → HaveSameMembers xs ys
same_members xs ys d h e = λ n. (h n, λ c. distinct_fills xs ys d h (omega arith) n c)

range_push : (a n : ℕ) → range_with_len a (suc n) ≡ range_with_len a n ++ (a + n) ∷ []
range_push a zero = rw add-zero refl
range_push a (suc n) = ap (λ xs. a ∷ xs) (range_push (a + 1) n
    ∙ ap (λ k. range_with_len (a + 1) n ++ k ∷ []) (omega arith))

pub range_more : (n : ℕ) → range_with_len 0 (n + 1) ≡ range_with_len 0 n ++ n ∷ []
range_more n = ap (λ k. range_with_len 0 k) (add-one n)
    ∙ (range_push 0 n ∙ ap (λ k. range_with_len 0 n ++ k ∷ []) (zero-add n))

-- one more number of a range that passes a test, or doesn't
pub count_more_yes : (p : ℕ → Bool) (n : ℕ) → p n ≡ true
    → length (filter p (range_with_len 0 (n + 1))) ≡ length (filter p (range_with_len 0 n)) + 1
count_more_yes p n e = rw (range_more n, filter-append p (range_with_len 0 n) (n ∷ []), e, length-append) refl

pub count_more_no : (p : ℕ → Bool) (n : ℕ) → p n ≡ false
    → length (filter p (range_with_len 0 (n + 1))) ≡ length (filter p (range_with_len 0 n))
count_more_no p n e = rw (range_more n, filter-append p (range_with_len 0 n) (n ∷ []), e, append-nil) refl

-- a member of a list that is put together of pieces is one of a piece
pub record Piece {X : Type 0} (f : X → List ℕ) (xs : List X) (n : ℕ) : Type 0 where
  pub piece : X
  pub among : Contains xs piece
  pub member : Contains (f piece) n

pub contains_flat_map : {X : Type 0} (f : X → List ℕ) (xs : List X) (n : ℕ) → Contains (flat_map f xs) n → Piece f xs n
contains_flat_map f [] n h = absurd (contains_none n h)
contains_flat_map f (x ∷ xs) n h = elim (Contains-append_cases (f x) (flat_map f xs) n h) [
  | inl here ↦ record { piece = x; among = contains_here x xs; member = here }
  | inr there ↦ let r = contains_flat_map f xs n there in
      record { piece = r.piece; among = contains_there x xs r.piece r.among; member = r.member }
]

pub flat_map_contains : {X : Type 0} (f : X → List ℕ) (xs : List X) (x : X) (n : ℕ) → Contains xs x → Contains (f x) n
    → Contains (flat_map f xs) n
flat_map_contains f [] x n c m = absurd (contains_none x c)
flat_map_contains f (y ∷ ys) x n c m = elim (contains_cases y ys x c) [
  | inl e ↦ Contains-append_left (f y) (flat_map f ys) n (subst (λ z. Contains (f z) n) (sym e) m)
  | inr k ↦ Contains-append_right (f y) (flat_map f ys) n (flat_map_contains f ys x n k m)
]

-- what holds of each member holds at each place
pub all_members : {X : Type 0} (P : X → Type 0) (xs : List X) → ((x : X) → Contains xs x → P x) → All P xs
all_members P xs h = λ k d l. h (get_or xs k d) (Contains-get_or xs k d l)
