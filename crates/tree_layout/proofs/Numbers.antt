-- The pages of trees stand in different places of the segments of their indexes.
use Rattle.std.proofs.Common.{◌≡◌, ℕ, zero, suc, ◌+◌, ◌-◌, ◌*◌, ◌<◌, ◌≤◌, List, length, cond}
use Rattle.std.proofs.Common.{true, false, refl, sym, ap, ◌∙◌, subst, arith, inl, inr, ◌⊎◌, slice_index}
use Rattle.std.proofs.lemmas.Bool.{ne_eqb, eq-eqb, cases_lt}
use Rattle.std.proofs.lemmas.Bool.Decides.{eqb_tells}
use Rattle.std.proofs.lemmas.List.Sums.{sum_by-drop_more}
use Rattle.std.proofs.lemmas.List.{drop_all}
use Rattle.tree_layout.specs.Places.{pages_above, is_leaf_row, segment_for, place_for, top_size, leaf_size}
use Rattle.tree_layout.specs.Places.{IsTreePlace, HaveOneNumber, FitsSegments, StandWithin, AreDifferent}
use Rattle.tree_layout.specs.PlaceLaws.{NumbersAreDifferent}

-- a level and those above it
pub above_more : (counts : List ℕ) (l : ℕ) → suc l < length counts
    → pages_above counts l ≡ slice_index counts (suc l) + pages_above counts (suc l)
unfolding pages_above
above_more counts l inside =
    let e : l + 1 ≡ suc l = omega arith in
    rw e (sum_by-drop_more (λ n. n) counts (suc l) 0 inside)

pub above_none : (counts : List ℕ) (l : ℕ) → length counts ≤ suc l → pages_above counts l ≡ 0
unfolding pages_above
above_none counts l past =
    let e : l + 1 ≡ suc l = omega arith in rw (e, drop_all (suc l) counts past) refl

-- the pages of a level and of those above it are among those above a lower level
above_within : (counts : List ℕ) (l n : ℕ) → suc (l + n) < length counts
    → slice_index counts (suc (l + n)) + pages_above counts (suc (l + n)) ≤ pages_above counts l
above_within counts l zero inside =
    let e : l + 0 ≡ l = omega arith in
    let more = above_more counts l (omega arith) in rw e (omega arith)
above_within counts l (suc n) inside =
    let e : l + suc n ≡ suc (l + n) = omega arith in
    let rest = above_within counts l n (omega arith) in
    let more = above_more counts (suc (l + n)) (omega arith) in
    rw e (omega arith)

above_below : (counts : List ℕ) (l m : ℕ) → l < m → m < length counts
    → slice_index counts m + pages_above counts m ≤ pages_above counts l
above_below counts l m before inside =
    let e : suc (l + (m - suc l)) ≡ m = omega arith in
    rw e at (above_within counts l (m - suc l) (omega arith))

-- the root stands first
pub root_first : (counts : List ℕ) → 0 < length counts → pages_above counts (length counts - 1) ≡ 0
root_first counts some = above_none counts (length counts - 1) (omega arith)

-- whether a level is one of leaves below a root
pub data Row (counts : List ℕ) (l : ℕ) : Type 0 where
  leaves : l ≡ 0 → 1 < length counts → is_leaf_row counts l ≡ true → Row counts l
  upper : (0 < l) ⊎ (length counts ≡ 1) → is_leaf_row counts l ≡ false → Row counts l

pub row_of : (counts : List ℕ) (l : ℕ) → 0 < length counts → Row counts l
row_of counts l some =
    elim (eqb_tells l 0) [
      | inl zero_level ↦
          elim (eqb_tells (length counts) 1) [
            | inl one ↦ upper (inr one.1) (rw (zero_level.0, one.0) refl)
            | inr more ↦ leaves zero_level.1
                (elim (cases_lt 1 (length counts)) [ inl many ↦ many | inr few ↦ absurd (more.1 (omega arith)) ])
                (rw (zero_level.0, more.0) refl)
          ]
      | inr above ↦ upper (inl (elim (cases_lt 0 l) [ inl some ↦ some | inr none ↦ absurd (above.1 (omega arith)) ]))
          (rw above.0 refl)
    ]

-- the place in a segment, and which segment it is
pub leaf_place : (counts : List ℕ) (l k : ℕ) → is_leaf_row counts l ≡ true → place_for counts l k ≡ k
leaf_place counts l k row = ap (λ b. cond b k (pages_above counts l + k)) row

pub leaf_segment_for : (counts : List ℕ) (j l : ℕ) → is_leaf_row counts l ≡ true → segment_for counts j l ≡ 2 * j + 1
leaf_segment_for counts j l row = ap (λ b. cond b (2 * j + 1) (2 * j)) row

pub top_place : (counts : List ℕ) (l k : ℕ) → is_leaf_row counts l ≡ false
    → place_for counts l k ≡ pages_above counts l + k
top_place counts l k row = ap (λ b. cond b k (pages_above counts l + k)) row

pub top_segment_for : (counts : List ℕ) (j l : ℕ) → is_leaf_row counts l ≡ false → segment_for counts j l ≡ 2 * j
top_segment_for counts j l row = ap (λ b. cond b (2 * j + 1) (2 * j)) row

module _ (counts : List ℕ) (size : ℕ → ℕ) (j : ℕ) (fits : FitsSegments counts size j) where
  pub one_top : length counts ≡ 1 → top_size counts ≡ 1
  one_top one = ap (λ b. cond b 1 (pages_above counts 0)) (eq-eqb (length counts) 1 one)

  pub more_top : 1 < length counts → top_size counts ≡ pages_above counts 0
  more_top many = ap (λ b. cond b 1 (pages_above counts 0)) (ne_eqb (length counts) 1 (λ e. omega arith))

  pub more_leaf : 1 < length counts → leaf_size counts ≡ slice_index counts 0
  more_leaf many = ap (λ b. cond b 0 (slice_index counts 0)) (ne_eqb (length counts) 1 (λ e. omega arith))

  only_page : (l k : ℕ) → length counts ≡ 1 → l < length counts → k < slice_index counts l → k ≡ 0
  only_page l k one inside within =
      let top : length counts - 1 ≡ l = omega arith in
      let single : slice_index counts l ≡ 1 = rw top at fits.single in
      omega arith

  pub upper_below : (l k : ℕ) → l < length counts → k < slice_index counts l → (0 < l) ⊎ (length counts ≡ 1)
      → pages_above counts l + k < top_size counts
  upper_below l k inside within (inl above) =
      let below = above_below counts 0 l above inside in
      let many = more_top (omega arith) in
      omega arith
  upper_below l k inside within (inr one) =
      let none = above_none counts l (omega arith) in
      let first = only_page l k one inside within in
      let size_one = one_top one in
      omega arith

  -- a page stands at one of the tree's places
  pub tree_place : (l k : ℕ) → l < length counts → k < slice_index counts l
      → IsTreePlace counts j (segment_for counts j l) (place_for counts l k)
  tree_place l k inside within =
      elim (row_of counts l fits.some) [
        | leaves bottom many row ↦
            let sizes = more_leaf many in
            let here : k < slice_index counts 0 = rw bottom at within in
            let place = leaf_place counts l k row in
            inr (leaf_segment_for counts j l row, omega arith)
        | upper kind row ↦
            let place = top_place counts l k row in
            let below = upper_below l k inside within kind in
            inl (top_segment_for counts j l row, omega arith)
      ]

  stands : StandWithin counts size j
  stands l k inside within =
      elim (tree_place l k inside within) [
        | inl top ↦
            let room = fits.top in
            subst (λ s. place_for counts l k < size s) (sym top.0) (let below = top.1 in omega arith)
        | inr leaf ↦
            let room = fits.leaf in
            subst (λ s. place_for counts l k < size s) (sym leaf.0) (let below = leaf.1 in omega arith)
      ]

  -- the same place above the leaves is the same page
  same_upper : (l k m i : ℕ) → l < length counts → k < slice_index counts l → m < length counts
      → i < slice_index counts m → pages_above counts l + k ≡ pages_above counts m + i → (l ≡ m) × (k ≡ i)
  same_upper l k m i inside within other there same =
      elim (cases_lt l m) [
        | inl before ↦ let below = above_below counts l m before other in absurd (omega arith)
        | inr behind ↦
            elim (cases_lt m l) [
              | inl after ↦ let below = above_below counts m l after inside in absurd (omega arith)
              | inr last ↦
                  let level : l ≡ m = omega arith in
                  let above : pages_above counts l ≡ pages_above counts m = ap (pages_above counts) level in
                  (level, omega arith)
            ]
      ]

  module _ (page : ℕ → ℕ → ℕ) (one : HaveOneNumber page size) where
    different : AreDifferent page counts j
    different l k inside within m i other there same =
        let both = one (segment_for counts j l) (segment_for counts j m) (place_for counts l k) (place_for counts m i)
        (stands l k inside within) (stands m i other there) same in
        elim (row_of counts l fits.some) [
          | leaves bottom many row ↦
              elim (row_of counts m fits.some) [
                | leaves low more second ↦
                    let places = sym (leaf_place counts l k row) ∙ both.1 ∙ leaf_place counts m i second in
                    (omega arith, places)
                | upper kind second ↦
                    let segments = sym (leaf_segment_for counts j l row) ∙ both.0
                    ∙ top_segment_for counts j m second in
                    absurd (omega arith)
              ]
          | upper kind row ↦
              elim (row_of counts m fits.some) [
                | leaves low more second ↦
                    let segments = sym (top_segment_for counts j l row) ∙ both.0
                    ∙ leaf_segment_for counts j m second in
                    absurd (omega arith)
                | upper sort second ↦
                    same_upper l k m i inside within other there
                    (sym (top_place counts l k row) ∙ both.1 ∙ top_place counts m i second)
              ]
        ]

-- the segments of two indexes are different ones
half_of : (counts : List ℕ) (j l : ℕ) → 0 < length counts
    → (segment_for counts j l ≡ 2 * j) ⊎ (segment_for counts j l ≡ 2 * j + 1)
half_of counts j l some =
    elim (row_of counts l some) [
      | leaves bottom many row ↦ inr (leaf_segment_for counts j l row)
      | upper kind row ↦ inl (top_segment_for counts j l row)
    ]

same_index : (s t j i : ℕ) → s ≡ t → (s ≡ 2 * j) ⊎ (s ≡ 2 * j + 1) → (t ≡ 2 * i) ⊎ (t ≡ 2 * i + 1) → j ≡ i
same_index s t j i same (inl a) (inl b) = omega arith
same_index s t j i same (inl a) (inr b) = absurd (omega arith)
same_index s t j i same (inr a) (inl b) = absurd (omega arith)
same_index s t j i same (inr a) (inr b) = omega arith

pub numbers_law : NumbersAreDifferent
numbers_law page size counts j one fits = record {
  within = stands counts size j fits;
  different = different counts size j fits page one;
  apart = λ others i more other l k inside within m h there below same.
      let both = one (segment_for counts j l) (segment_for others i m) (place_for counts l k) (place_for others m h)
      (stands counts size j fits l k inside within) (stands others size i more m h there below) same in
      other (same_index (segment_for counts j l) (segment_for others i m) j i both.0 (half_of counts j l fits.some)
      (half_of others i m more.some));
}
