-- Facts on lists.
use Rattle.std.proofs.Common.{◌≡◌, ℕ, zero, suc, ◌<◌, List, [], ◌∷◌, length, take, Contains, Some}
use Rattle.std.proofs.Common.{inl, inr, subst, arith}
use Rattle.std.specs.List.{slice_get}
use Rattle.page_source.specs.Lists.{AreDistinct}
use Rattle.page_source.proofs.Members.{contains_none, contains_here, contains_there, contains_cases}
use Rattle.page_source.proofs.Members.{distinct_none, distinct_head, distinct_tail, distinct_cons}

pub contains_take : {X : Type 0} (n : ℕ) (xs : List X) (x : X) → Contains (take n xs) x → Contains xs x
contains_take zero xs x h = absurd (contains_none x h)
contains_take (suc n) [] x h = absurd (contains_none x h)
contains_take {X = X} (suc n) (y ∷ ys) x h = elim (contains_cases y (take n ys) x h) [
  | inl e ↦ subst (λ (z : X). Contains (y ∷ ys) z) e (contains_here y ys)
  | inr k ↦ contains_there y ys x (contains_take n ys x k)
]

pub distinct_take : (n : ℕ) (xs : List ℕ) → AreDistinct xs → AreDistinct (take n xs)
distinct_take zero xs h = distinct_none
distinct_take (suc n) [] h = distinct_none
distinct_take (suc n) (y ∷ ys) h =
    distinct_cons y (take n ys) (λ c. distinct_head y ys h (contains_take n ys y c))
    (distinct_take n ys (distinct_tail y ys h))

pub place_below : {X : Type 0} (xs : List X) (n : ℕ) (x : X) → slice_get xs n ≡ Some x → n < length xs
place_below [] n x e = cc
place_below (y ∷ ys) zero x e = omega arith
place_below (y ∷ ys) (suc n) x e = omega (arith, place_below ys n x e)
