-- The pages of a tree fill its places.
use Rattle.std.proofs.Common.{◌≡◌, ℕ, zero, suc, ◌+◌, ◌-◌, ◌*◌, ◌<◌, List, length, cond}
use Rattle.std.proofs.Common.{true, false, refl, sym, ap, ◌∙◌, arith, inl, inr, slice_index}
use Rattle.std.proofs.lemmas.Bool.{ne_eqb, eq-eqb, cases_lt}
use Rattle.tree_layout.specs.Places.{pages_above, is_leaf_row, top_size, leaf_size}
use Rattle.tree_layout.specs.Places.{IsTreePlace, FitsSegments}
use Rattle.tree_layout.specs.PlaceLaws.{PageAt, FillPlaces, PagesFillPlaces}
use Rattle.tree_layout.proofs.Numbers.{leaves, upper, row_of, leaf_place, leaf_segment_for, top_place, top_segment_for}
use Rattle.tree_layout.proofs.Numbers.{above_none, above_more, root_first, one_top, more_top, more_leaf, upper_below}
use Rattle.tree_layout.proofs.Numbers.{tree_place}

-- page k of level m, above some level, stands at this place
record Found (counts : List ℕ) (l i : ℕ) : Type 0 where
  m : ℕ
  k : ℕ
  above : l < m
  inside : m < length counts
  within : k < slice_index counts m
  place : pages_above counts m + k ≡ i

upper_found : (counts : List ℕ) (n l i : ℕ) → l + suc n ≡ length counts → i < pages_above counts l
    → Found counts l i
upper_found counts zero l i size below =
    let none = above_none counts l (omega arith) in absurd (omega arith)
upper_found counts (suc n) l i size below =
    let more = above_more counts l (omega arith) in
    elim (cases_lt i (pages_above counts (suc l))) [
      | inl higher ↦
          let found = upper_found counts n (suc l) i (omega arith) higher in record {
            m = found.m;
            k = found.k;
            above = let up = found.above in omega arith;
            inside = found.inside;
            within = found.within;
            place = found.place;
          }
      | inr here ↦ record {
        m = suc l;
        k = i - pages_above counts (suc l);
        above = omega arith;
        inside = omega arith;
        within = omega arith;
        place = omega arith;
      }
    ]

module _ (counts : List ℕ) (size : ℕ → ℕ) (j : ℕ) (fits : FitsSegments counts size j) where
  upper_page : (s i : ℕ) → s ≡ 2 * j → (m k : ℕ) → 0 < m → m < length counts → k < slice_index counts m
      → pages_above counts m + k ≡ i → PageAt counts j s i
  upper_page s i segment m k above inside within place =
      let row : is_leaf_row counts m ≡ false = rw (ne_eqb m 0 (λ e. omega arith)) refl in record {
        l = m;
        k = k;
        inside = inside;
        within = within;
        segment = top_segment_for counts j m row ∙ sym segment;
        place = top_place counts m k row ∙ place;
      }

  only_row : (s i : ℕ) → s ≡ 2 * j → length counts ≡ 1 → 0 < slice_index counts 0 → i ≡ 0 → PageAt counts j s i
  only_row s i segment one some first =
      let row : is_leaf_row counts 0 ≡ false = rw (eq-eqb (length counts) 1 one) refl in
      let none = above_none counts 0 (omega arith) in record {
        l = 0;
        k = 0;
        inside = omega arith;
        within = some;
        segment = top_segment_for counts j 0 row ∙ sym segment;
        place = top_place counts 0 0 row ∙ omega arith;
      }

  leaf_page : (s i : ℕ) → s ≡ 2 * j + 1 → 1 < length counts → i < slice_index counts 0 → PageAt counts j s i
  leaf_page s i segment many below =
      let row : is_leaf_row counts 0 ≡ true = rw (ne_eqb (length counts) 1 (λ e. omega arith)) refl in record {
        l = 0;
        k = i;
        inside = omega arith;
        within = below;
        segment = leaf_segment_for counts j 0 row ∙ sym segment;
        place = leaf_place counts 0 i row;
      }

  pub page_at_place : (s i : ℕ) → IsTreePlace counts j s i → PageAt counts j s i
  page_at_place s i (inl top) =
      let some = fits.some in
      let below = top.1 in
      elim (cases_lt 1 (length counts)) [
        | inl many ↦
            let sizes = more_top counts size j fits many in
            let found = upper_found counts (length counts - 1) 0 i (omega arith) (omega arith) in
            upper_page s i top.0 found.m found.k found.above found.inside found.within found.place
        | inr few ↦
            let one : length counts ≡ 1 = omega arith in
            let sizes = one_top counts size j fits one in
            let last : length counts - 1 ≡ 0 = omega arith in
            let single : slice_index counts 0 ≡ 1 = rw last at fits.single in
            let none = above_none counts 0 (omega arith) in
            only_row s i top.0 one (omega arith) (omega arith)
      ]
  page_at_place s i (inr leaf) =
      let some = fits.some in
      let below = leaf.1 in
      elim (cases_lt 1 (length counts)) [
        | inl many ↦
            let sizes = more_leaf counts size j fits many in
            leaf_page s i leaf.0 many (omega arith)
        | inr few ↦
            let none = ap (λ b. cond b 0 (slice_index counts 0)) (eq-eqb (length counts) 1 (omega arith)) in
            absurd (omega arith)
      ]

  -- the root
  root_row : is_leaf_row counts (length counts - 1) ≡ false
  root_row =
      elim (row_of counts (length counts - 1) fits.some) [
        | leaves bottom many row ↦ absurd (omega arith)
        | upper kind row ↦ row
      ]

  -- the pages above a page and before it
  fewer : (l k : ℕ) → l < length counts → k < slice_index counts l
      → pages_above counts l + k < top_size counts + leaf_size counts
  fewer l k inside within =
      elim (row_of counts l fits.some) [
        | leaves bottom many row ↦
            let above = more_top counts size j fits many in
            let first = more_leaf counts size j fits many in
            let here = ap (pages_above counts) bottom in
            let wide = ap (slice_index counts) bottom in
            omega arith
        | upper kind row ↦ let below = upper_below counts size j fits l k inside within kind in omega arith
      ]

  pub fill_places : FillPlaces counts j
  fill_places =
      let first = root_first counts fits.some in record {
        placed = λ l k inside within. tree_place counts size j fits l k inside within;
        filled = page_at_place;
        root_segment = top_segment_for counts j (length counts - 1) root_row;
        root_place = top_place counts (length counts - 1) 0 root_row ∙ omega arith;
        fewer = fewer;
      }

pub places_law : PagesFillPlaces
places_law counts size j fits = fill_places counts size j fits
