-- Lists that are joined from pieces, and parts of them.
use Rattle.std.proofs.Common.{◌≡◌, ℕ, ◌+◌, ◌-◌, ◌<◌, ◌≤◌, List, [], ◌∷◌, ◌++◌, length, get_or, take, drop, flat_map}
use Rattle.std.proofs.Common.{slice_range}
use Rattle.std.proofs.Common.{sym, ap, ◌∙◌, arith, length-append, append-nil, take-append-drop, drop-drop, take-take}
use Rattle.std.proofs.lemmas.List.{take_more, same_lists, drop-take}
use Rattle.std.proofs.lemmas.List.Concat.{flat_map-append, get_or-flat_map}
use Rattle.std.proofs.lemmas.List.Edits.{length-between, get_or-between}

-- one piece more
pub flat_more : {X A : Type 0} (f : X → List A) (xs : List X) (i : ℕ) (d : X) → i < length xs
    → length (flat_map f (take (i + 1) xs)) ≡ length (flat_map f (take i xs)) + length (f (get_or xs i d))
flat_more {X} f xs i d below =
    let x = get_or xs i d in
    let front = flat_map f (take i xs) in
    ap (λ (ys : List X). length (flat_map f ys)) (take_more xs i d below)
    ∙ ap length (flat_map-append f (take i xs) (x ∷ [])) ∙ length-append front (f x ++ [])
    ∙ ap (λ (n : ℕ). length front + n) (ap length (append-nil (f x)))

-- the first pieces are no longer than all
pub flat_front : {X A : Type 0} (f : X → List A) (xs : List X) (k : ℕ)
    → length (flat_map f (take k xs)) ≤ length (flat_map f xs)
flat_front {X} f xs k =
    let whole : length (flat_map f (take k xs ++ drop k xs)) ≡ length (flat_map f xs) =
    ap (λ (ys : List X). length (flat_map f ys)) (take-append-drop k xs) in
    let parts : length (flat_map f (take k xs ++ drop k xs))
    ≡ length (flat_map f (take k xs) ++ flat_map f (drop k xs)) =
    ap length (flat_map-append f (take k xs) (drop k xs)) in
    omega (arith, whole, parts, length-append (flat_map f (take k xs)) (flat_map f (drop k xs)))

-- a piece ends within the whole
pub flat_within : {X A : Type 0} (f : X → List A) (xs : List X) (i : ℕ) (d : X) → i < length xs
    → length (flat_map f (take i xs)) + length (f (get_or xs i d)) ≤ length (flat_map f xs)
flat_within f xs i d below = omega (arith, flat_more f xs i d below, flat_front f xs (i + 1))

-- piece i as a part of the whole
pub flat_slice : {X : Type 0} (f : X → List ℕ) (xs : List X) (i : ℕ) (e : X) → i < length xs
    → slice_range (flat_map f xs) (length (flat_map f (take i xs)))
    (length (flat_map f (take i xs)) + length (f (get_or xs i e))) ≡ f (get_or xs i e)
flat_slice f xs i e below =
    let a : ℕ = length (flat_map f (take i xs)) in
    let x : List ℕ = f (get_or xs i e) in
    let whole : List ℕ = flat_map f xs in
    let size : length (slice_range whole a (a + length x)) ≡ length x =
    omega (arith, length-between whole a (a + length x) (flat_within f xs i e below)) in
    same_lists (slice_range whole a (a + length x)) x size
    (λ k d inside.
    get_or-between whole a (a + length x) k d (omega (arith, size))
    ∙ get_or-flat_map f xs i k e d below (omega (arith, size)))

-- a part of a part of a list
pub slice_in : (page whole : List ℕ) (o a l : ℕ) → slice_range page o (o + length whole) ≡ whole
    → a + l ≤ length whole → slice_range page (o + a) (o + a + l) ≡ slice_range whole a (a + l)
slice_in page whole o a l is inside =
    let m : ℕ = length whole - a in
    let e1 : o + length whole - o ≡ a + m = omega arith in
    let e2 : o + a + l - (o + a) ≡ l = omega arith in
    let e3 : a + l - a ≡ l = omega arith in
    let few : l ≤ m = omega arith in
    let cut : take (a + m) (drop o page) ≡ whole = ap (λ (n : ℕ). take n (drop o page)) (sym e1) ∙ is in
    let behind : take m (drop (o + a) page) ≡ drop a whole =
    ap (λ (xs : List ℕ). take m xs) (sym (drop-drop a o page)) ∙ sym (drop-take a m (drop o page))
    ∙ ap (λ (xs : List ℕ). drop a xs) cut in
    ap (λ (n : ℕ). take n (drop (o + a) page)) e2 ∙ sym (take-take l m (drop (o + a) page) few)
    ∙ ap (λ (xs : List ℕ). take l xs) behind ∙ ap (λ (n : ℕ). take n (drop a whole)) (sym e3)
