-- Pages of a list's front, and of its rest.
use Rattle.std.proofs.Common.{◌≡◌, ℕ, ◌+◌, ◌-◌, ◌≤◌, List, ◌++◌, length, take, drop, ap, ◌∙◌, arith, length-drop}
use Rattle.std.proofs.lemmas.List.{drop-append-le, take-append-le, drop-drop}
use Rattle.page_scan.specs.Found.{page_at}

pub page_at_front : (xs ys : List ℕ) (o : ℕ) → o + 16384 ≤ length xs → page_at (xs ++ ys) o ≡ page_at xs o
page_at_front xs ys o whole =
    let room : o + 16384 - o ≤ length (drop o xs) = omega (arith, length-drop o xs) in
    ap (take (o + 16384 - o)) (drop-append-le o xs ys (omega arith))
    ∙ take-append-le (o + 16384 - o) (drop o xs) ys room

pub page_at_rest : (xs : List ℕ) (o p : ℕ) → page_at (drop o xs) p ≡ page_at xs (o + p)
page_at_rest xs o p =
    let count : p + 16384 - p ≡ o + p + 16384 - (o + p) = omega arith in
    ap (λ (n : ℕ). take n (drop p (drop o xs))) count
    ∙ ap (take (o + p + 16384 - (o + p))) (drop-drop p o xs)
