-- Members of lists that are put together.
use Rattle.std.proofs.Common.{◌≡◌, suc, ◌-◌, Bool, false, List, [], ◌∷◌, length}
use Rattle.std.proofs.Common.{get_or, All, filter, refl, arith}
use Rattle.std.proofs.lemmas.List.{get_or_default}
use Rattle.std.proofs.lemmas.List.Elements.{All-head, All-tail}

-- a filter keeps nothing where no member passes
pub filter_none : {X : Type 0} (p : X → Bool) (xs : List X) → All (λ x. p x ≡ false) xs → filter p xs ≡ []
filter_none p [] a = refl
filter_none {X = X} p (x ∷ xs) a =
    let here : p x ≡ false = All-head (λ y. p y ≡ false) x xs a in
    rw here (filter_none p xs (All-tail (λ y. p y ≡ false) x xs a))

-- the last member, or else this one
abbrev pub last_or : {X : Type 0} → List X → X → X
last_or xs x = get_or xs (length xs - 1) x

pub last_cons : {X : Type 0} (x : X) (xs : List X) (d : X) → last_or (x ∷ xs) d ≡ last_or xs x
last_cons x [] d = refl
last_cons x (y ∷ ys) d =
    let e : length (x ∷ y ∷ ys) - 1 ≡ suc (length (y ∷ ys) - 1) = omega arith in
    rw e (get_or_default (y ∷ ys) (length (y ∷ ys) - 1) d x (omega arith))
