-- Facts on lists alone: members of images and of joined pieces, ranges that grow, parts of lists, sums.
use Rattle.std.proofs.Common.{◌≡◌, ℕ, zero, suc, ◌+◌, ◌-◌, ◌<◌, ◌≤◌, List, [], ◌∷◌, ◌++◌, length, get_or, map}
use Rattle.std.proofs.Common.{take, drop, All, Contains, flat_map, sum_by, sym, ◌∙◌, ap, subst, inl, inr, arith}
use Rattle.std.proofs.Common.{length-drop}
use Rattle.std.proofs.lemmas.List.{get_or-map, length-map, drop-append-le, take-append-le}
use Rattle.std.proofs.lemmas.List.Elements.{All-nil, All-append, Contains-append_left, Contains-append_right}
use Rattle.std.proofs.lemmas.List.Sums.{get_or-le-sum_by, sum_by-cons}
use Rattle.std.specs.List.{range_with_len, slice_range}
use Rattle.page_source.proofs.Members.{contains_none, contains_cases}

-- the image of a member is a member of the image
pub contains_map : {X Y : Type 0} (f : X → Y) (xs : List X) (x : X) → Contains xs x → Contains (map f xs) (f x)
contains_map f xs x has =
    (has.0, omega (arith, has.1, length-map xs f), get_or-map f xs has.0 x (f x) has.1 ∙ ap f has.2)

-- a member of a piece is one of the whole
pub flat_map_has : {X Y : Type 0} (f : X → List Y) (xs : List X) (x : X) (y : Y) → Contains xs x → Contains (f x) y
    → Contains (flat_map f xs) y
flat_map_has f [] x y c m = absurd (contains_none x c)
flat_map_has {X = X} {Y = Y} f (z ∷ zs) x y c m = elim (contains_cases z zs x c) [
  | inl e ↦ Contains-append_left (f z) (flat_map f zs) y (subst (λ (w : X). Contains (f w) y) (sym e) m)
  | inr k ↦ Contains-append_right (f z) (flat_map f zs) y (flat_map_has f zs x y k m)
]

-- what holds of all members of each piece holds of all of the whole
pub all_flat_map : {X A : Type 0} (P : A → Type 0) (f : X → List A) (xs : List X) → All (λ x. All P (f x)) xs
    → All P (flat_map f xs)
all_flat_map P f [] all = All-nil P
all_flat_map P f (x ∷ xs) all =
    All-append P (f x) (flat_map f xs) (all 0 x (omega arith))
    (all_flat_map P f xs (λ k d below. all (suc k) d (omega (arith, below))))

-- a range with one more number
pub range_next : (a n : ℕ) → range_with_len a (n + 1) ≡ range_with_len a n ++ (a + n) ∷ []
range_next a zero = ap (λ (k : ℕ). k ∷ []) (let e : a ≡ a + 0 = omega arith in e)
range_next a (suc n) =
    let next : suc n + 1 ≡ suc (n + 1) = omega arith in
    let last : a + 1 + n ≡ a + suc n = omega arith in
    ap (range_with_len a) next
    ∙ ap (λ (rest : List ℕ). a ∷ rest)
    (range_next (a + 1) n ∙ ap (λ (k : ℕ). range_with_len (a + 1) n ++ k ∷ []) last)

-- a part of a list is one of a longer list
pub slice_range_append : (xs ys : List ℕ) (a b : ℕ) → a ≤ b → b ≤ length xs
    → slice_range (xs ++ ys) a b ≡ slice_range xs a b
slice_range_append xs ys a b rising inside =
    ap (take (b - a)) (drop-append-le a xs ys (omega (arith, rising, inside)))
    ∙ take-append-le (b - a) (drop a xs) ys (omega (arith, rising, inside, length-drop a xs))

-- two members of a sum
pub two_places : {X : Type 0} (f : X → ℕ) (xs : List X) (k s : ℕ) (d : X) → k < s → s < length xs
    → f (get_or xs k d) + f (get_or xs s d) ≤ sum_by f xs
two_places f [] k s d h l = absurd (omega arith)
two_places f (x ∷ xs) k zero d h l = absurd (omega arith)
two_places f (x ∷ xs) zero (suc s) d h l =
    let r = get_or-le-sum_by f xs s d (omega arith) in
    let e = sum_by-cons f x xs in
    omega arith
two_places f (x ∷ xs) (suc k) (suc s) d h l =
    let r = two_places f xs k s d (omega arith) (omega arith) in
    let e = sum_by-cons f x xs in
    omega arith
