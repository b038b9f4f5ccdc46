-- facts on lists and marks that know nothing of trees
use Rattle.std.proofs.Common.{◌≡◌, ℕ, ◌+◌, ◌<◌, ◌≤◌, List, [], ◌∷◌, ◌++◌, length, get_or, take, Bool}
use Rattle.std.proofs.Common.{not, drop, refl, ap, arith}
use Rattle.std.specs.List.{flat_map}
use Rattle.std.proofs.lemmas.List.{take_more, append-nil, take-append-drop, length-append}
use Rattle.std.proofs.lemmas.List.Concat.{flat_map-append}
use Rattle.std.proofs.lemmas.List.Sums.{count_by-le-length}
use Rattle.page_source.specs.Lists.{unmarked}

-- a loop that appends the pieces of one list after another
pub flat_map-take_more : {X A : Type 0} (f : X → List A) (xs : List X) (i : ℕ) (d : X) → i < length xs → flat_map f
    (take (i + 1) xs) ≡ flat_map f (take i xs) ++ f (get_or xs i d)
flat_map-take_more f xs i d h = rw (
  take_more xs i d h,
  flat_map-append f (take i xs) (get_or xs i d ∷ []),
  append-nil (f (get_or xs i d)),
) refl

-- the pieces of the first members of a list are as many as those of all, at most
pub length-flat_map-take : {X A : Type 0} (f : X → List A) (xs : List X) (n : ℕ) → length (flat_map f (take n xs)) ≤
    length (flat_map f xs)
length-flat_map-take f xs n =
    let e = ap (λ ys. length (flat_map f ys)) (take-append-drop n xs) in
    let p = flat_map-append f (take n xs) (drop n xs) in
    let q = length-append (flat_map f (take n xs)) (flat_map f (drop n xs)) in
    let r = ap length p in
    omega (arith, e, q, r)

pub unmarked_most : (marks : List Bool) → 0 + unmarked marks ≤ length marks
unmarked_most marks = let h = count_by-le-length not marks in omega arith
