-- The sizes of the segments of indexes.
use Rattle.std.proofs.Common.{◌≡◌, ℕ, zero, suc, ◌+◌, ◌*◌, ◌/◌, ◌<◌, ◌≤◌, List, [], ◌∷◌, length, get_or, slice_get}
use Rattle.std.proofs.Common.{All, Some, refl, sym, ap, ◌∙◌, subst, arith}
use Rattle.std.proofs.lemmas.List.Elements.{All-head, All-tail}
use Rattle.space_layout.specs.Numbers.{size_at, sizes_of, AreIndexes, AreSizesOf, IsShape}

abbrev Pair : Type 0
Pair = ℕ × ℕ

sizes_length : (pairs : List Pair) → length (sizes_of pairs) ≡ 2 * length pairs
unfolding sizes_of
sizes_length [] = refl
sizes_length (pair ∷ pairs) = let rest = sizes_length pairs in omega arith

top_at : (pairs : List Pair) (j : ℕ) (pair : Pair) → slice_get pairs j ≡ Some pair
    → get_or (sizes_of pairs) (2 * j) 0 ≡ pair.0
unfolding sizes_of
top_at [] j pair is = cc
top_at (here ∷ pairs) zero pair is = let e : here ≡ pair = cc in ap (λ (p : Pair). p.0) e
top_at (here ∷ pairs) (suc j) pair is =
    let next : 2 * suc j ≡ suc (suc (2 * j)) = omega arith in
    ap (λ (k : ℕ). get_or (here.0 ∷ here.1 ∷ sizes_of pairs) k 0) next ∙ top_at pairs j pair is

leaf_at : (pairs : List Pair) (j : ℕ) (pair : Pair) → slice_get pairs j ≡ Some pair
    → get_or (sizes_of pairs) (2 * j + 1) 0 ≡ pair.1
unfolding sizes_of
leaf_at [] j pair is = cc
leaf_at (here ∷ pairs) zero pair is = let e : here ≡ pair = cc in ap (λ (p : Pair). p.1) e
leaf_at (here ∷ pairs) (suc j) pair is =
    let next : 2 * suc j + 1 ≡ suc (suc (2 * j + 1)) = omega arith in
    ap (λ (k : ℕ). get_or (here.0 ∷ here.1 ∷ sizes_of pairs) k 0) next ∙ leaf_at pairs j pair is

roots_at : (pairs : List Pair) → All (λ (pair : Pair). 1 ≤ pair.0) pairs → (j : ℕ) → j < length pairs
    → 1 ≤ get_or (sizes_of pairs) (2 * j) 0
unfolding sizes_of
roots_at [] h j l = absurd (omega arith)
roots_at (here ∷ pairs) h zero l = All-head (λ (pair : Pair). 1 ≤ pair.0) here pairs h
roots_at (here ∷ pairs) h (suc j) l =
    let next : 2 * suc j ≡ suc (suc (2 * j)) = omega arith in
    subst (λ (k : ℕ). 1 ≤ get_or (here.0 ∷ here.1 ∷ sizes_of pairs) k 0) (sym next)
    (roots_at pairs (All-tail (λ (pair : Pair). 1 ≤ pair.0) here pairs h) j (omega arith))

pub has_sizes : (pairs : List Pair) → AreSizesOf pairs
has_sizes pairs = record { count = sizes_length pairs; top = top_at pairs; leaf = leaf_at pairs }

pub has_shape : (pairs : List Pair) → AreIndexes pairs → IsShape (sizes_of pairs)
has_shape pairs h =
    let count = sizes_length pairs in
    let few = h.few in
    record {
      few = omega arith;
      pairs = omega arith;
      roots = λ s l top.
          let half : 2 * (s / 2) ≡ s = omega arith in
          subst (λ (k : ℕ). 1 ≤ size_at (sizes_of pairs) k) half (roots_at pairs h.roots (s / 2) (omega arith));
      fits = h.fits;
    }
