-- Rows by their ranks.
use Rattle.std.proofs.Common.{◌≡◌, ℕ, ◌%◌, ◌^◌, ◌+◌, ◌*◌, ◌<◌, List, map, length, get_or, subst, sym, ap, ◌∙◌, arith}
use Rattle.std.proofs.Common.{[], ◌∷◌, ◌++◌, take, drop, append-nil, All, None, ◌/◌, Option}
use Rattle.std.specs.List.{range_with_len}
use Rattle.std.specs.List.Sorted.{IsPermutation, IsSortedBy}
use Rattle.std.specs.Ordering.{is_lt}
use Rattle.std.proofs.lemmas.List.{get_or-map, length-map, map-append, drop_all, take_all}
use Rattle.page_source.proofs.Members.{range_more}
use Rattle.std.proofs.lemmas.List.Sorted.{IsPermutation-map, All-permutation}
use Rattle.std.proofs.lemmas.List.Elements.{All-push}
use Rattle.column_values.specs.Order.{key_cmp}
use Rattle.key_ranks.specs.Keys.{KeyTable, IsRowOrder}
use Rattle.key_ranks.specs.declared.fronts.Digit.{Digit}
use Rattle.key_ranks.specs.Ranks.{AreInOrder, HasFront, HaveFronts, IsRank}

abbrev row : ℕ → ℕ
row rank = rank % 2 ^ 24

-- one more rank
pub ranks_more : (ranks now : List ℕ) (number i : ℕ) → i < 2 ^ 24 → map row ranks ≡ range_with_len 0 i
    → now ≡ ranks ++ (number * 16777216 + i) ∷ [] → map row now ≡ range_with_len 0 (i + 1)
ranks_more ranks now number i below rows grown =
    let last : (number * 16777216 + i) % 2 ^ 24 ≡ i = omega (arith, below) in
    ap (map row) grown
    ∙ map-append row ranks ((number * 16777216 + i) ∷ [])
    ∙ ap (λ (list : List ℕ). list ++ row (number * 16777216 + i) ∷ []) rows
    ∙ ap (λ (n : ℕ). range_with_len 0 i ++ n ∷ []) last
    ∙ sym (range_more i)

pub fronts_more : (table : KeyTable) (filler : ℕ) (digits : List Digit) (ranks now : List ℕ) (front i : ℕ)
    (first : Option (List ℕ)) → i < 2 ^ 24 → first ≡ get_or (table.key i) 0 None → length (table.key i) ≡ length table.kinds
    → HasFront filler digits first front → now ≡ ranks ++ (front * 16777216 + i) ∷ []
    → HaveFronts table filler digits ranks → HaveFronts table filler digits now
fronts_more table filler digits ranks now front i first below is whole has grown all =
    let last : (front * 16777216 + i) % 2 ^ 24 ≡ i = omega (arith, below) in
    let high : (front * 16777216 + i) / 2 ^ 24 ≡ front = omega (arith, below) in
    let rank = front * 16777216 + i in
    let here : IsRank table filler digits rank = record {
      whole = subst (λ (n : ℕ). length (table.key n) ≡ length table.kinds) (sym last) whole;
      front = subst (λ (n : ℕ). HasFront filler digits (get_or (table.key n) 0 None) (rank / 2 ^ 24)) (sym last)
          (subst (λ (n : ℕ). HasFront filler digits (get_or (table.key i) 0 None) n) (sym high)
          (subst (λ (value : Option (List ℕ)). HasFront filler digits value front) is has));
    } in
    subst (All (IsRank table filler digits)) (sym grown)
    (All-push (IsRank table filler digits) ranks (front * 16777216 + i) all here)

-- the fronts of ranks in another order
pub fronts_stay : (table : KeyTable) (filler : ℕ) (digits : List Digit) (before after now : List ℕ)
    → IsPermutation before after → now ≡ after → HaveFronts table filler digits before → HaveFronts table filler digits now
fronts_stay table filler digits before after now places is all =
    subst (All (IsRank table filler digits)) (sym is)
    (All-permutation (IsRank table filler digits) before after places all)

-- a list that was written over from its first member to its last
pub written_over : (before after : List ℕ) (n : ℕ) → n ≡ length before → length after ≡ length before
    → take n (after ++ drop (length after) before) ≡ after
written_over before after n is same =
    ap (λ (list : List ℕ). take n (after ++ list)) (drop_all (length after) before (omega (arith, same)))
    ∙ ap (take n) (append-nil after) ∙ take_all n after (omega (arith, is, same))

-- the rows of sorted ranks are in order
pub rows_in_order : (table : KeyTable) (before after order : List ℕ) (count : ℕ)
    → map row before ≡ range_with_len 0 count → IsPermutation before after → AreInOrder table after
    → order ≡ map row after → IsRowOrder table count order
rows_in_order table before after order count rows places rise is =
    rw is
    (record {
      places = subst (λ (list : List ℕ). IsPermutation list (map row after)) rows
          (IsPermutation-map row before after places);
      sorted = sorted;
    })
  where
    sorted : IsSortedBy (λ a b. is_lt (key_cmp table.kinds (table.key a) (table.key b))) (map row after)
    sorted k d least less =
        let size = length-map after row in
        let here = get_or-map row after k 0 d (omega (arith, less, size)) in
        let next = get_or-map row after (k + 1) 0 d (omega (arith, less, size)) in
        rw (here, next) (rise k 0 least (omega (arith, less, size)))
