-- the descent and the levels have the same pages
use Rattle.std.proofs.Common.{◌≡◌, ◌==◌, ℕ, suc, zero, ◌+◌, List, [], ◌∷◌, ◌++◌, cond, refl, sym, ◌∙◌, ap, add_assoc}
use Rattle.std.specs.List.{flat_map}
use Rattle.std.proofs.lemmas.List.{append-nil, map-append}
use Rattle.std.proofs.lemmas.List.Concat.{flat_map-append}
use Rattle.tree_walk.specs.Index.{Index, Row, rows_on, rows_of, children, child_of, pages_at, reached, root_level}
use Rattle.tree_walk.specs.Index.{leaf_rows}
use Rattle.tree_walk.specs.Descent.{children_at, below, pages_under, rows_below, tree_rows}
use Rattle.tree_walk.proofs.Occurs.{occurs, occurs-cons, occurs-append, occurs-flat_map-append, occurs-flat_map-same}

-- the children of these pages
abbrev pub down : Index → List ℕ → List ℕ
down index xs = flat_map (children_at index) xs

pub children_down : (index : Index) (xs : List ℕ) → children index (rows_of index xs) ≡ down index xs
children_down index [] = refl
children_down index (x ∷ xs) =
    map-append (child_of index) (rows_on index x) (rows_of index xs)
    ∙ ap (λ ys. children_at index x ++ ys) (children_down index xs)

-- so many times down
iterate : Index → ℕ → List ℕ → List ℕ
iterate index zero xs = xs
iterate index (suc k) xs = down index (iterate index k xs)

iterate_down : (index : Index) (k : ℕ) (xs : List ℕ) → iterate index k (down index xs) ≡ down index (iterate index k xs)
unfolding iterate
iterate_down index zero xs = refl
iterate_down index (suc k) xs = ap (down index) (iterate_down index k xs)

flat_map-flat_map : (f g : ℕ → List ℕ) (xs : List ℕ) → flat_map (λ x. flat_map f (g x)) xs ≡ flat_map f (flat_map g xs)
flat_map-flat_map f g [] = refl
flat_map-flat_map f g (x ∷ xs) =
    ap (λ ys. flat_map f (g x) ++ ys) (flat_map-flat_map f g xs) ∙ sym (flat_map-append f (g x) (flat_map g xs))

below_iterate : (index : Index) (k : ℕ) (xs : List ℕ) → flat_map (below index k) xs ≡ iterate index k xs
unfolding iterate below
below_iterate index zero [] = refl
below_iterate index zero (x ∷ xs) = ap (λ ys. x ∷ ys) (below_iterate index zero xs)
below_iterate index (suc k) xs =
    flat_map-flat_map (below index k) (children_at index) xs
    ∙ below_iterate index k (down index xs)
    ∙ iterate_down index k xs

pages_iterate : (index : Index) (d : ℕ) → pages_at index d ≡ iterate index d (index.root ∷ [])
unfolding iterate pages_at
pages_iterate index zero = refl
pages_iterate index (suc d) = children_down index (pages_at index d) ∙ ap (down index) (pages_iterate index d)

-- the pages at a depth are those of the descent, in its order
pub below_is : (index : Index) (d : ℕ) → below index d index.root ≡ pages_at index d
below_is index d = sym (append-nil (below index d index.root)) ∙ below_iterate index d (index.root ∷ []) ∙ sym
    (pages_iterate index d)

-- level by level
levels_of : Index → ℕ → ℕ → List ℕ
levels_of index zero n = n ∷ []
levels_of index (suc k) n = levels_of index k n ++ below index (suc k) n

reached_levels : (index : Index) (d : ℕ) → reached index d ≡ levels_of index d index.root
unfolding levels_of reached
reached_levels index zero = refl
reached_levels index (suc d) = ap (λ xs. xs ++ pages_at index (suc d)) (reached_levels index d) ∙ ap
    (λ xs. levels_of index d index.root ++ xs) (sym (below_is index (suc d)))

levels_step : (m : ℕ) (index : Index) (k n : ℕ) → occurs m (levels_of index (suc k) n) ≡ cond (n == m) 1 0 + occurs
    m (flat_map (levels_of index k) (children_at index n))
unfolding levels_of below
levels_step m index zero n = occurs-cons m n (flat_map (levels_of index 0) (children_at index n))
levels_step m index (suc k) n =
    let cs = children_at index n in
    occurs-append m (levels_of index (suc k) n) (below index (suc (suc k)) n)
    ∙ ap (λ x. x + occurs m (flat_map (below index (suc k)) cs)) (levels_step m index k n)
    ∙ add_assoc (cond (n == m) 1 0) (occurs m (flat_map (levels_of index k) cs))
    (occurs m (flat_map (below index (suc k)) cs))
    ∙ ap (λ x. cond (n == m) 1 0 + x) (sym (occurs-flat_map-append m (levels_of index k) (below index (suc k)) cs))

tree_occurs : (m : ℕ) (index : Index) (l n : ℕ) → occurs m (pages_under index l n) ≡ occurs m (levels_of index l n)
unfolding levels_of pages_under
tree_occurs m index zero n = refl
tree_occurs m index (suc l) n =
    occurs-cons m n (flat_map (pages_under index l) (children_at index n))
    ∙ ap (λ k. cond (n == m) 1 0 + k) (occurs-flat_map-same m (pages_under index l) (levels_of index l)
    (tree_occurs m index l) (children_at index n))
    ∙ sym (levels_step m index l n)

-- each page occurs as often in the descent as in the levels
pub reached_occurs : (m : ℕ) (index : Index) (l : ℕ) → occurs m (reached index l) ≡ occurs m
    (pages_under index l index.root)
reached_occurs m index l = ap (occurs m) (reached_levels index l) ∙ sym (tree_occurs m index l index.root)

flat_map-flat_map' : (f : ℕ → List Row) (g : ℕ → List ℕ) (xs : List ℕ) → flat_map (λ x. flat_map f (g x)) xs ≡
    flat_map f (flat_map g xs)
flat_map-flat_map' f g [] = refl
flat_map-flat_map' f g (x ∷ xs) =
    ap (λ ys. flat_map f (g x) ++ ys) (flat_map-flat_map' f g xs) ∙ sym (flat_map-append f (g x) (flat_map g xs))

rows_iterate : (index : Index) (k : ℕ) (xs : List ℕ) → flat_map (rows_below index k) xs ≡ rows_of index
    (iterate index k xs)
unfolding iterate rows_below
rows_iterate index zero [] = refl
rows_iterate index zero (x ∷ xs) = ap (λ ys. rows_on index x ++ ys) (rows_iterate index zero xs)
rows_iterate index (suc k) xs =
    flat_map-flat_map' (rows_below index k) (children_at index) xs
    ∙ rows_iterate index k (down index xs)
    ∙ ap (rows_of index) (iterate_down index k xs)

-- the rows of the leaves are those of the descent
pub rows_law : (index : Index) → leaf_rows index ≡ tree_rows index
rows_law index =
    ap (rows_of index) (pages_iterate index (root_level index))
    ∙ sym (rows_iterate index (root_level index) (index.root ∷ []))
    ∙ append-nil (rows_below index (root_level index) index.root)
