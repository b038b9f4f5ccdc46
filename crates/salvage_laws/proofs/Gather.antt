-- Lists that are gathered from pieces in another order.
use Rattle.std.proofs.Common.{◌≡◌, ℕ, Bool, true, false, not, cond, eqb, List, [], ◌∷◌}
use Rattle.std.proofs.Common.{◌++◌, length, map, get_or, filter, flat_map, sum_by, All, Contains, inl, inr, refl}
use Rattle.std.proofs.Common.{sym, ap, ◌∙◌}
use Rattle.std.proofs.Common.{subst, arith, append_assoc}
use Rattle.std.specs.List.{AllZip, range_with_len}
use Rattle.std.specs.List.Sorted.{IsPermutation}
use Rattle.std.proofs.lemmas.Bool.{false≢true}
use Rattle.std.proofs.lemmas.Bool.Decides.{eqb_tells}
use Rattle.std.proofs.lemmas.List.FromFn.{get_or-map-range_with_len, length-map-range_with_len}
use Rattle.std.proofs.lemmas.List.Sums.{sum_by-cons}
use Rattle.std.proofs.lemmas.List.Elements.{All-nil, All-append, All-head, All-tail, filter-append}
use Rattle.std.proofs.lemmas.List.Sorted.{IsPermutation-refl, IsPermutation-trans, IsPermutation-append_left}
use Rattle.std.proofs.lemmas.List.Sorted.{IsPermutation-append_right, IsPermutation-append_comm}
use Rattle.page_source.specs.Lists.{AreDistinct, HaveSameMembers}
use Rattle.page_source.proofs.Members.{contains_none, contains_here, contains_there, contains_cases, contains_filter}
use Rattle.page_source.proofs.Members.{filter_contains, distinct_head, distinct_tail, distinct_filter}
use Rattle.salvage_laws.proofs.Outcomes.{same_list}

-- all but one number
abbrev other_than : ℕ → ℕ → Bool
other_than x y = not (eqb y x)

-- nothing goes where it isn't there
filter_others : (x : ℕ) (ys : List ℕ) → ¬ (Contains ys x) → filter (other_than x) ys ≡ ys
filter_others x [] out = refl
filter_others x (y ∷ ys) out = elim (eqb_tells y x) [
  | inl q ↦ absurd (out (subst (λ (z : ℕ). Contains (y ∷ ys) z) q.1 (contains_here y ys)))
  | inr q ↦
      ap (λ (b : Bool). cond (not b) (y ∷ filter (other_than x) ys) (filter (other_than x) ys)) q.0
      ∙ ap (λ (rest : List ℕ). y ∷ rest) (filter_others x ys (λ c. out (contains_there y ys x c)))
]

-- two pieces change places
swap_front : {Y : Type 0} (a b rest : List Y) → IsPermutation (a ++ (b ++ rest)) (b ++ (a ++ rest))
swap_front {Y = Y} a b rest =
    subst (λ (l : List Y). IsPermutation l (b ++ (a ++ rest))) (append_assoc a b rest)
    (subst (λ (l : List Y). IsPermutation ((a ++ b) ++ rest) l) (append_assoc b a rest)
    (IsPermutation-append_left rest (a ++ b) (b ++ a) (IsPermutation-append_comm a b)))

-- the piece of a member comes to the front
pull : {Y : Type 0} (f : ℕ → List Y) (x : ℕ) (ys : List ℕ) → AreDistinct ys → Contains ys x
    → IsPermutation (f x ++ flat_map f (filter (other_than x) ys)) (flat_map f ys)
pull f x [] d c = absurd (contains_none x c)
pull {Y = Y} f x (y ∷ ys) d c = elim (eqb_tells y x) [
  | inl q ↦
      let out : ¬ (Contains ys x) =
      λ h. distinct_head y ys d (subst (λ (z : ℕ). Contains ys z) (sym q.1) h) in
      let same : filter (other_than x) (y ∷ ys) ≡ ys =
      ap (λ (b : Bool). cond (not b) (y ∷ filter (other_than x) ys) (filter (other_than x) ys)) q.0
      ∙ filter_others x ys out in
      let whole : f x ++ flat_map f (filter (other_than x) (y ∷ ys)) ≡ f y ++ flat_map f ys =
      ap (λ (l : List ℕ). f x ++ flat_map f l) same ∙ ap (λ (z : ℕ). f z ++ flat_map f ys) (sym q.1) in
      subst (λ (l : List Y). IsPermutation l (f y ++ flat_map f ys)) (sym whole)
      (IsPermutation-refl (f y ++ flat_map f ys))
  | inr q ↦
      let kept : filter (other_than x) (y ∷ ys) ≡ y ∷ filter (other_than x) ys =
      ap (λ (b : Bool). cond (not b) (y ∷ filter (other_than x) ys) (filter (other_than x) ys)) q.0 in
      let among : Contains ys x = elim (contains_cases y ys x c) [ inl e ↦ absurd (q.1 e) | inr k ↦ k ] in
      let rest = filter (other_than x) ys in
      subst (λ (l : List ℕ). IsPermutation (f x ++ flat_map f l) (f y ++ flat_map f ys)) (sym kept)
      (IsPermutation-trans (f x ++ (f y ++ flat_map f rest)) (f y ++ (f x ++ flat_map f rest)) (f y ++ flat_map f ys)
      (swap_front (f x) (f y) (flat_map f rest))
      (IsPermutation-append_right (f y) (f x ++ flat_map f rest) (flat_map f ys)
      (pull f x ys (distinct_tail y ys d) among)))
]

-- lists without repeat and with the same members have the same pieces, in some order
pub gathered : {Y : Type 0} (f : ℕ → List Y) (xs ys : List ℕ) → AreDistinct xs → AreDistinct ys
    → HaveSameMembers xs ys → IsPermutation (flat_map f xs) (flat_map f ys)
gathered f [] [] d e same = IsPermutation-refl []
gathered f [] (y ∷ ys) d e same = absurd (contains_none y ((same y).1 (contains_here y ys)))
gathered f (x ∷ xs) ys d e same =
    let rest = filter (other_than x) ys in
    let there : Contains ys x = (same x).0 (contains_here x xs) in
    let members : HaveSameMembers xs rest = λ n. (
      λ c. contains_filter (other_than x) ys n ((same n).0 (contains_there x xs n c)) (elim (eqb_tells n x) [
        | inl q ↦ absurd (distinct_head x xs d (subst (λ (m : ℕ). Contains xs m) q.1 c))
        | inr q ↦ ap not q.0
      ]),
      λ c.
          let both = filter_contains (other_than x) ys n c in
          elim (contains_cases x xs n ((same n).1 both.0)) [
            | inl e ↦ absurd (differs x n both.1 e)
            | inr k ↦ k
          ],
    ) in
    IsPermutation-trans (f x ++ flat_map f xs) (f x ++ flat_map f rest) (flat_map f ys)
    (IsPermutation-append_right (f x) (flat_map f xs) (flat_map f rest)
    (gathered f xs rest (distinct_tail x xs d) (distinct_filter (other_than x) ys e) members))
    (pull f x ys e there)
  where
    differs : (x n : ℕ) → other_than x n ≡ true → x ≡ n → ⊥
    differs x n e same = elim (eqb_tells n x) [
      | inl q ↦ false≢true (ap not (sym q.0) ∙ e)
      | inr q ↦ q.1 (sym same)
    ]

-- pieces that are empty don't count
pub without_empty : {Y : Type 0} (f : ℕ → List Y) (p : ℕ → Bool) (xs : List ℕ)
    → All (λ n. p n ≡ false → f n ≡ []) xs → flat_map f xs ≡ flat_map f (filter p xs)
without_empty f p [] all = refl
without_empty {Y = Y} f p (x ∷ xs) all =
    let rest = without_empty f p xs (All-tail (λ n. p n ≡ false → f n ≡ []) x xs all) in
    by_test (p x) refl rest (All-head (λ n. p n ≡ false → f n ≡ []) x xs all)
  where
    by_test : (b : Bool) → p x ≡ b → flat_map f xs ≡ flat_map f (filter p xs) → (p x ≡ false → f x ≡ [])
        → f x ++ flat_map f xs ≡ flat_map f (cond (p x) (x ∷ filter p xs) (filter p xs))
    by_test true e rest empty =
        ap (λ (l : List Y). f x ++ l) rest
        ∙ ap (λ (b : Bool). flat_map f (cond b (x ∷ filter p xs) (filter p xs))) (sym e)
    by_test false e rest empty =
        ap (λ (l : List Y). l ++ flat_map f xs) (empty e) ∙ rest
        ∙ ap (λ (b : Bool). flat_map f (cond b (x ∷ filter p xs) (filter p xs))) (sym e)

-- the pieces of a list by its places
flat_of_map : {X Z Y : Type 0} (f : X → List Y) (g : Z → X) (zs : List Z)
    → flat_map f (map g zs) ≡ flat_map (λ z. f (g z)) zs
flat_of_map f g [] = refl
flat_of_map {Y = Y} f g (z ∷ zs) = ap (λ (l : List Y). f (g z) ++ l) (flat_of_map f g zs)

pub by_places : {X Y : Type 0} (f : X → List Y) (xs : List X) (d : X)
    → flat_map f xs ≡ flat_map (λ k. f (get_or xs k d)) (range_with_len 0 (length xs))
by_places {X = X} f xs d =
    let size : length xs ≡ length (map (λ (k : ℕ). get_or xs k d) (range_with_len 0 (length xs))) =
    sym (length-map-range_with_len (λ (k : ℕ). get_or xs k d) 0 (length xs)) in
    let same : xs ≡ map (λ (k : ℕ). get_or xs k d) (range_with_len 0 (length xs)) =
    same_list d xs _ size (λ c below.
    sym (get_or-map-range_with_len (λ (k : ℕ). get_or xs k d) 0 (length xs) c c d below (omega arith))) in
    ap (flat_map f) same ∙ flat_of_map f (λ (k : ℕ). get_or xs k d) (range_with_len 0 (length xs))

-- a filter of pieces
pub filter_pieces : {X Y : Type 0} (p : Y → Bool) (f : X → List Y) (xs : List X)
    → filter p (flat_map f xs) ≡ flat_map (λ x. filter p (f x)) xs
filter_pieces p f [] = refl
filter_pieces {Y = Y} p f (x ∷ xs) =
    filter-append p (f x) (flat_map f xs) ∙ ap (λ (l : List Y). filter p (f x) ++ l) (filter_pieces p f xs)

pub filter_map_of : {X Y : Type 0} (p : Y → Bool) (f : X → Y) (xs : List X)
    → filter p (map f xs) ≡ map f (filter (λ x. p (f x)) xs)
filter_map_of p f [] = refl
filter_map_of {Y = Y} p f (x ∷ xs) = by_test (p (f x)) (filter_map_of p f xs)
  where
    by_test : (b : Bool) → filter p (map f xs) ≡ map f (filter (λ x. p (f x)) xs)
        → cond b (f x ∷ filter p (map f xs)) (filter p (map f xs))
        ≡ map f (cond b (x ∷ filter (λ x. p (f x)) xs) (filter (λ x. p (f x)) xs))
    by_test true rest = ap (λ (l : List Y). f x ∷ l) rest
    by_test false rest = rest

pub map_map : {X Y Z : Type 0} (g : Y → Z) (f : X → Y) (xs : List X) → map g (map f xs) ≡ map (λ x. g (f x)) xs
map_map g f [] = refl
map_map {Z = Z} g f (x ∷ xs) = ap (λ (l : List Z). g (f x) ∷ l) (map_map g f xs)

-- pairs of lists
pub zip_append : {A B : Type 0} (R : A → B → Type 0) (xs : List A) (ys : List B) (us : List A) (vs : List B)
    → AllZip R xs ys → AllZip R us vs → AllZip R (xs ++ us) (ys ++ vs)
zip_append R [] [] us vs p q = q
zip_append R [] (y ∷ ys) us vs p q = absurd p
zip_append R (x ∷ xs) [] us vs p q = absurd p
zip_append R (x ∷ xs) (y ∷ ys) us vs p q = (p.0, zip_append R xs ys us vs p.1 q)

pub zip_pieces : {X A B : Type 0} (R : A → B → Type 0) (f : X → List A) (g : X → List B) (xs : List X)
    → All (λ x. AllZip R (f x) (g x)) xs → AllZip R (flat_map f xs) (flat_map g xs)
zip_pieces R f g [] all = tt
zip_pieces R f g (x ∷ xs) all =
    zip_append R (f x) (g x) (flat_map f xs) (flat_map g xs)
    (All-head (λ y. AllZip R (f y) (g y)) x xs all)
    (zip_pieces R f g xs (All-tail (λ y. AllZip R (f y) (g y)) x xs all))

pub zip_of_map : {A B : Type 0} (R : A → B → Type 0) (f : B → A) (xs : List B) → All (λ x. R (f x) x) xs
    → AllZip R (map f xs) xs
zip_of_map R f [] all = tt
zip_of_map R f (x ∷ xs) all =
    (All-head (λ y. R (f y) y) x xs all, zip_of_map R f xs (All-tail (λ y. R (f y) y) x xs all))

-- two lists beside one
pub same_beside : {A B C L : Type 0} (Q : A → B → Type 0) (R : A → C → Type 0) (f : B → L) (g : C → L)
    → ((x : A) (y : B) (z : C) → Q x y → R x z → f y ≡ g z) → (xs : List A) (ys : List B) (zs : List C)
    → AllZip Q xs ys → AllZip R xs zs → map f ys ≡ map g zs
same_beside Q R f g one [] [] [] p q = refl
same_beside Q R f g one [] [] (z ∷ zs) p q = absurd q
same_beside Q R f g one [] (y ∷ ys) zs p q = absurd p
same_beside Q R f g one (x ∷ xs) [] zs p q = absurd p
same_beside Q R f g one (x ∷ xs) (y ∷ ys) [] p q = absurd q
same_beside {L = L} Q R f g one (x ∷ xs) (y ∷ ys) (z ∷ zs) p q =
    ap (λ (v : L). v ∷ map f ys) (one x y z p.0 q.0)
    ∙ ap (λ (l : List L). g z ∷ l) (same_beside Q R f g one xs ys zs p.1 q.1)

-- sums
pub all_pieces : {X Y : Type 0} (P : Y → Type 0) (f : X → List Y) (xs : List X) → All (λ x. All P (f x)) xs
    → All P (flat_map f xs)
all_pieces P f [] all = All-nil P
all_pieces P f (x ∷ xs) all =
    All-append P (f x) (flat_map f xs) (All-head (λ y. All P (f y)) x xs all)
    (all_pieces P f xs (All-tail (λ y. All P (f y)) x xs all))

pub sum_ones : {X : Type 0} (f : X → ℕ) (xs : List X) → All (λ x. f x ≡ 1) xs → sum_by f xs ≡ length xs
sum_ones f [] all = refl
sum_ones f (x ∷ xs) all =
    let here = All-head (λ y. f y ≡ 1) x xs all in
    let rest = sum_ones f xs (All-tail (λ y. f y ≡ 1) x xs all) in
    let sum = sum_by-cons f x xs in
    omega arith

pub sum_zeros : {X : Type 0} (f : X → ℕ) (xs : List X) → All (λ x. f x ≡ 0) xs → sum_by f xs ≡ 0
sum_zeros f [] all = refl
sum_zeros f (x ∷ xs) all =
    let here = All-head (λ y. f y ≡ 0) x xs all in
    let rest = sum_zeros f xs (All-tail (λ y. f y ≡ 0) x xs all) in
    let sum = sum_by-cons f x xs in
    omega arith
