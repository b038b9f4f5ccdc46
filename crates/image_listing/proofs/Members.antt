-- Members of a list, of its images and of those that pass a test.
use Rattle.std.proofs.Common.{◌≡◌, ◌<◌, Bool, true, false, cond, List, [], ◌∷◌, length, map, filter, get_or, refl}
use Rattle.std.proofs.Common.{sym, ap}
use Rattle.std.proofs.Common.{◌∙◌, arith}
use Rattle.std.specs.List.{Contains}
use Rattle.std.proofs.lemmas.List.{get_or-map, length-map}
use Rattle.std.proofs.lemmas.List.Elements.{Contains-get_or}
use Rattle.page_source.proofs.Members.{contains_none}

pub contains_from_map : {X Y : Type 0} (f : X → Y) (xs : List X) (y : Y) → Contains (map f xs) y
    → (x : X) × Contains xs x × (f x ≡ y)
contains_from_map f [] y has = absurd (contains_none y has)
contains_from_map f (x ∷ xs) y has =
    let within : has.0 < length (x ∷ xs) = omega (arith, has.1, length-map (x ∷ xs) f) in (
      get_or (x ∷ xs) has.0 x,
      Contains-get_or (x ∷ xs) has.0 x within,
      sym (get_or-map f (x ∷ xs) has.0 x y within) ∙ has.2,
    )

-- the images that pass a test are those of what passes it before
pub filter_map_of : {X Y : Type 0} (test : Y → Bool) (f : X → Y) (xs : List X)
    → filter test (map f xs) ≡ map f (filter (λ x. test (f x)) xs)
filter_map_of test f [] = refl
filter_map_of test f (x ∷ xs) = by_test (test (f x)) (filter_map_of test f xs)
  where
    by_test : (first : Bool) → filter test (map f xs) ≡ map f (filter (λ y. test (f y)) xs)
        → cond first (f x ∷ filter test (map f xs)) (filter test (map f xs))
        ≡ map f (cond first (x ∷ filter (λ y. test (f y)) xs) (filter (λ y. test (f y)) xs))
    by_test true rest = ap (λ ys. f x ∷ ys) rest
    by_test false rest = rest
