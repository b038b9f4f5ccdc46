-- Lists over a range of numbers.
use Rattle.std.proofs.Common.{◌≡◌, ℕ, zero, suc, ◌+◌, ◌*◌, ◌<◌, ◌≤◌, List, ◌++◌, length, take, drop, map}
use Rattle.std.proofs.Common.{refl, sym, ap, ◌∙◌, subst, arith}
use Rattle.std.specs.List.{All, flat_map, range_with_len, sum_by}
use Rattle.std.proofs.Common.{length-append}
use Rattle.std.proofs.lemmas.List.Sums.{sum_by-cons}
use Rattle.std.proofs.Math.Seq.{take-add}
use Rattle.std.proofs.lemmas.List.{drop-drop}
use Rattle.std.proofs.lemmas.List.Elements.{All-from_get_or}
use Rattle.std.proofs.lemmas.List.FromFn.{get_or-map-range_with_len, length-map-range_with_len}

-- what is the same for each number of a range
pub flat_same : {A : Type 0} (f g : ℕ → List A) (from count : ℕ)
    → ((i : ℕ) → from ≤ i → i < from + count → f i ≡ g i)
    → flat_map f (range_with_len from count) ≡ flat_map g (range_with_len from count)
flat_same f g from zero same = refl
flat_same f g from (suc count) same =
    let here = same from (omega arith) (omega arith) in
    let rest = flat_same f g (from + 1) count (λ i low high. same i (omega arith) (omega arith)) in
    rw (here, rest) refl

-- what holds for each number of a range
pub all_map : {A : Type 0} (P : A → Type 0) (f : ℕ → A) (count : ℕ) (d : A) → ((i : ℕ) → i < count → P (f i))
    → All P (map f (range_with_len 0 count))
all_map P f count d each =
    All-from_get_or P (map f (range_with_len 0 count)) d
    (λ i below.
    let size = length-map-range_with_len f 0 count in
    let within : i < count = omega arith in
    subst P (sym (get_or-map-range_with_len f 0 count i i d within (omega arith))) (each i within))

-- pieces of a list, one after another
pub pieces_join : {A : Type 0} (xs : List A) (c from count : ℕ)
    → flat_map (λ k. take c (drop (c * k) xs)) (range_with_len from count) ≡ take (c * count) (drop (c * from) xs)
pieces_join xs c from zero = let none : c * 0 ≡ 0 = omega arith in rw none refl
pieces_join xs c from (suc count) =
    let rest = pieces_join xs c (from + 1) count in
    let next : c * (from + 1) ≡ c * from + c = omega arith in
    let all : c * suc count ≡ c + c * count = omega arith in
    ap (λ ys. take c (drop (c * from) xs) ++ ys)
    (rest ∙ ap (λ n. take (c * count) (drop n xs)) next
    ∙ ap (take (c * count)) (sym (drop-drop c (c * from) xs)))
    ∙ sym (take-add c (c * count) (drop (c * from) xs)) ∙ ap (λ n. take n (drop (c * from) xs)) (sym all)

-- the members of lists, counted one list after another
pub sum_lengths : {A : Type 0} (f : ℕ → ℕ) (number : ℕ → ℕ) (g : ℕ → List A) (from count : ℕ)
    → ((i : ℕ) → from ≤ i → i < from + count → f (number i) ≡ length (g i))
    → sum_by f (map number (range_with_len from count)) ≡ length (flat_map g (range_with_len from count))
sum_lengths f number g from zero same = refl
sum_lengths f number g from (suc count) same =
    let here = same from (omega arith) (omega arith) in
    let rest = sum_lengths f number g (from + 1) count (λ i low high. same i (omega arith) (omega arith)) in
    sum_by-cons f (number from) (map number (range_with_len (from + 1) count))
    ∙ rw (here, rest) (sym (length-append (g from) (flat_map g (range_with_len (from + 1) count))))
