-- Lists by place.
use Rattle.std.proofs.Common.{◌≡◌, ℕ, zero, suc, ◌+◌, ◌-◌, ◌<◌, ◌≤◌, List, ◌∷◌, map, take, drop}
use Rattle.std.proofs.Common.{slice_range, refl, sym, ap, ◌∙◌, arith, add-zero}
use Rattle.std.specs.List.{range_with_len}
use Rattle.std.proofs.lemmas.List.{take-take, drop-take}

-- over two ranges, the same place by place
pub map_ranges : {X : Type 0} (f g : ℕ → X) (from to count : ℕ)
    → ((i : ℕ) → i < count → f (from + i) ≡ g (to + i))
    → map f (range_with_len from count) ≡ map g (range_with_len to count)
map_ranges f g from to zero same = refl
map_ranges {X} f g from to (suc count) same =
    let here : f from ≡ g to =
    ap f (sym (add-zero from)) ∙ same 0 (omega arith) ∙ ap g (add-zero to) in
    let rest : map f (range_with_len (from + 1) count) ≡ map g (range_with_len (to + 1) count) =
    map_ranges f g (from + 1) (to + 1) count
    (λ i below.
    let low : from + 1 + i ≡ from + (i + 1) = omega arith in
    let high : to + (i + 1) ≡ to + 1 + i = omega arith in
    ap f low ∙ same (i + 1) (omega arith) ∙ ap g high) in
    ap (λ (x : X). x ∷ map f (range_with_len (from + 1) count)) here
    ∙ ap (λ (xs : List X). g to ∷ xs) rest

-- a part of the first ones
pub slice_taken : (xs : List ℕ) (n a b : ℕ) → a ≤ b → b ≤ n → slice_range (take n xs) a b ≡ slice_range xs a b
slice_taken xs n a b rising inside =
    let size : a + (n - a) ≡ n = omega arith in
    ap (λ (m : ℕ). take (b - a) (drop a (take m xs))) (sym size)
    ∙ ap (take (b - a)) (drop-take a (n - a) xs)
    ∙ take-take (b - a) (n - a) (drop a xs) (omega arith)
