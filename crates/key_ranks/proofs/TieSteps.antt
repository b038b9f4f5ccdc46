-- Ranks of one front that take other fronts for a while, and come back in another order.
use Rattle.std.proofs.Common.{◌≡◌, ℕ, zero, suc, ◌*◌, ◌/◌, ◌%◌, ◌+◌, ◌^◌, ◌<◌, List, [], ◌∷◌, map, length, get_or, set}
use Rattle.std.proofs.Common.{refl, sym, ap, subst, ◌∙◌, arith}
use Rattle.std.specs.List.Sorted.{IsPermutation}
use Rattle.std.proofs.lemmas.List.Sorted.{IsPermutation-map}

abbrev row : ℕ → ℕ
row rank = rank % 2 ^ 24

-- a rank with this front
abbrev with_front : ℕ → ℕ → ℕ
with_front front rank = front * 2 ^ 24 + row rank

-- another front at one place leaves the rows
pub row_kept : (ranks : List ℕ) (i x : ℕ) → (i < length ranks → row x ≡ row (get_or ranks i 0))
    → map row (set ranks i x) ≡ map row ranks
row_kept [] i x same = refl
row_kept (r ∷ ranks) zero x same = ap (λ (n : ℕ). n ∷ map row ranks) (same (omega arith))
row_kept (r ∷ ranks) (suc i) x same =
    ap (λ (list : List ℕ). row r ∷ list) (row_kept ranks i x (λ less. same (omega (arith, less))))

-- ranks that have this front are the same with it
same_front : (front : ℕ) (ranks : List ℕ) → ((i : ℕ) → i < length ranks → get_or ranks i 0 / 2 ^ 24 ≡ front)
    → map (with_front front) ranks ≡ ranks
same_front front [] fronts = refl
same_front front (r ∷ ranks) fronts =
    let here : with_front front r ≡ r = omega (arith, fronts 0 (omega arith)) in
    let rest = same_front front ranks (λ i less. fronts (suc i) (omega (arith, less))) in
    ap (λ (n : ℕ). n ∷ map (with_front front) ranks) here ∙ ap (λ (list : List ℕ). r ∷ list) rest

-- with one front, ranks are what their rows are
same_rows : (front : ℕ) (a b : List ℕ) → map row a ≡ map row b → map (with_front front) a ≡ map (with_front front) b
same_rows front a b same =
    sym (over_rows front a) ∙ ap (map (λ (n : ℕ). front * 2 ^ 24 + n)) same ∙ over_rows front b
  where
    over_rows : (front : ℕ) (ranks : List ℕ)
        → map (λ (n : ℕ). front * 2 ^ 24 + n) (map row ranks) ≡ map (with_front front) ranks
    over_rows front [] = refl
    over_rows front (r ∷ ranks) = ap (λ (list : List ℕ). with_front front r ∷ list) (over_rows front ranks)

-- ranks of one front, whose fronts changed, that were put into another order and got their front again
pub front_put : (front : ℕ) (before changed moved now : List ℕ)
    → ((i : ℕ) → i < length before → get_or before i 0 / 2 ^ 24 ≡ front) → map row changed ≡ map row before
    → IsPermutation changed moved → now ≡ map (with_front front) moved → IsPermutation before now
front_put front before changed moved now fronts rows places is =
    let back : map (with_front front) changed ≡ before = same_rows front changed before rows
    ∙ same_front front before fronts in
    rw is
    (subst (λ (list : List ℕ). IsPermutation list (map (with_front front) moved)) back
    (IsPermutation-map (with_front front) changed moved places))
