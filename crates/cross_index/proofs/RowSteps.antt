-- The values of the kept fields of a record, one by one.
use Rattle.std.proofs.Common.{◌≡◌, ℕ, ◌+◌, ◌<◌, ◌≤◌, List, [], ◌∷◌, ◌++◌, length, get_or, map, take, drop, true, false}
use Rattle.std.proofs.Common.{sym, ap, ◌∙◌}
use Rattle.std.proofs.Common.{subst, arith, append_assoc}
use Rattle.std.specs.Prelude.{sum_by}
use Rattle.std.proofs.lemmas.List.{append-nil, map_more, take_more, take-append-drop, get_or_default}
use Rattle.std.proofs.lemmas.List.Sums.{sum_by-append}
use Rattle.column_values.specs.Order.{Key}
use Rattle.compact_record.specs.declared.places.Place.{Place}
use Rattle.cross_index.specs.Entries.{whole_cell}
use Rattle.cross_index.specs.calls.Gather.{CanFollowPlace, CanGather, pages_of_place, place_in, pages_of_fields}
use Rattle.cross_index.specs.calls.Gather.{cells_of}

-- the values of the first n fields were added
pub record RowSoFar (file page : List ℕ) (places : List Place) (kept : List ℕ) (old now : Key) (most left n : ℕ)
    : Type 0 where
  pub grown : now ≡ old ++ cells_of file page places (take n kept)
  pub used : left + pages_of_fields file page places (take n kept) ≡ most

pub row_start : (file page : List ℕ) (places : List Place) (kept : List ℕ) (old : Key) (left : ℕ)
    → RowSoFar file page places kept old old left left 0
unfolding cells_of pages_of_fields
row_start file page places kept old left = record { grown = sym (append-nil old); used = omega arith }

module _ (file page : List ℕ) (places : List Place) (kept : List ℕ) (n d : ℕ) (p : Place) (within : n < length kept)
    (placed : (e : Place) → p ≡ get_or places (get_or kept n d) e) where
  field_place : place_in places (get_or kept n 0) ≡ p
  unfolding place_in
  field_place =
      let null : Place = record { null = true; external = false; from = 0; until = 0 } in
      ap (λ (m : ℕ). get_or places m null) (get_or_default kept n 0 d within) ∙ sym (placed null)

  -- the pages of one field more
  pages_more : pages_of_fields file page places (take (n + 1) kept)
      ≡ pages_of_fields file page places (take n kept) + length (pages_of_place file page p)
  unfolding pages_of_fields
  pages_more =
      let f : ℕ → ℕ = λ m. length (pages_of_place file page (place_in places m)) in
      ap (sum_by f) (take_more kept n 0 within) ∙ sum_by-append f (take n kept) (get_or kept n 0 ∷ [])
      ∙ omega (arith, ap (λ (q : Place). length (pages_of_place file page q)) field_place)

  -- the pages of the first fields are among those of all
  pages_part : pages_of_fields file page places (take (n + 1) kept) ≤ pages_of_fields file page places kept
  unfolding pages_of_fields
  pages_part =
      let f : ℕ → ℕ = λ m. length (pages_of_place file page (place_in places m)) in
      let all = ap (sum_by f) (sym (take-append-drop (n + 1) kept))
      ∙ sum_by-append f (take (n + 1) kept) (drop (n + 1) kept) in
      omega (arith, all)

  pub row_follow : (left : ℕ) → CanGather file page places kept left → CanFollowPlace file page p
  row_follow left can = subst (CanFollowPlace file page) field_place (can.follow n 0 within)

  pub row_few : (old now : Key) (most left : ℕ) → CanGather file page places kept most
      → RowSoFar file page places kept old now most left n → length (pages_of_place file page p) ≤ left
  row_few old now most left can so = omega (arith, pages_part, pages_more, so.used, can.few)

  pub row_more : (old now next : Key) (most left less : ℕ) → RowSoFar file page places kept old now most left n
      → next ≡ now ++ whole_cell file page p ∷ [] → less + length (pages_of_place file page p) ≡ left
      → RowSoFar file page places kept old next most less (n + 1)
  unfolding cells_of
  row_more old now next most left less so grown used = record {
    grown =
        let f = λ (m : ℕ). whole_cell file page (place_in places m) in
        grown ∙ ap (λ (c : Key). c ++ whole_cell file page p ∷ []) so.grown
        ∙ append_assoc old (map f (take n kept)) (whole_cell file page p ∷ [])
        ∙ ap (λ (c : Key). old ++ c)
        (ap (λ (q : Place). map f (take n kept) ++ whole_cell file page q ∷ []) (sym field_place)
        ∙ sym (map_more f kept n 0 within));
    used = omega (arith, so.used, pages_more, used);
  }
