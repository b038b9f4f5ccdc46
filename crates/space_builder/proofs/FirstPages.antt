-- The first pages of the fields of rows are kept row by row.
use Rattle.std.proofs.Common.{◌≡◌, ℕ, zero, suc, ◌+◌, ◌<◌, ◌≤◌, ◌∷◌, ◌++◌, Bool, true, false, List, [], length, take}
use Rattle.std.proofs.Common.{slice_index, map, sum, cond, refl, Result, Ok, Err}
use Rattle.std.proofs.Common.{sym, ap, ◌∙◌, subst, arith, length-append, inl, inr}
use Rattle.std.proofs.lemmas.Bool.{cases_lt, true≢false}
use Rattle.std.proofs.lemmas.List.{get_or-append-add, get_or-take, length-take, take-append-le, take_all}
use Rattle.std.proofs.lemmas.List.Sums.{sum_by-cons}
use Rattle.std.proofs.lemmas.List.FromFn.{get_or-map-range_with_len, length-map-range_with_len}
use Rattle.std.specs.Result.{OnOk}
use Rattle.std.specs.List.{flat_map, range_with_len}
use Rattle.offpage_chain.specs.ValuePage.{pages_for}
use Rattle.schema_text.specs.declared.table.Format.{Format}
use Rattle.space_layout.specs.NumberedPages.{Numbered}
use Rattle.space_layout.specs.ValuePlaces.{pages_before_row}
use Rattle.row_layout.specs.StoredRow.{Stored, stored_at, off_bytes}
use Rattle.row_layout.specs.HoldsValues.{pages_of_stored, stored_in}
use Rattle.space_builder.specs.layout.ValuePage.{page_counts, value_page_bytes}
use Rattle.space_builder.specs.calls.Picked.{first_page_in}
use Rattle.space_builder.specs.calls.Room.{AreFirstPages, AreKept, KeepsRow, first_page, first_page_behind, first_pages}
use Rattle.space_builder.specs.calls.Room.{row_first_pages, row_pages, row_number, row_counts, number_behind}
use Rattle.space_builder.proofs.ValuePuts.{row_number_is}

-- lists that begin alike
begins_at : (xs ys : List ℕ) (n : ℕ) → take (length xs) ys ≡ xs → n < length xs → slice_index ys n ≡ slice_index xs n
begins_at xs ys n same below =
    sym (get_or-take (length xs) ys n 0 below) ∙ ap (λ (ns : List ℕ). slice_index ns n) same

begins_long : (xs ys : List ℕ) → take (length xs) ys ≡ xs → length xs ≤ length ys
begins_long xs ys same = omega (arith, ap length same, length-take (length xs) ys)

module _ (format : Format) (sizes : List ℕ) (leaves : ℕ) (rows : List (List Stored)) where
  abbrev Kept : ℕ → List ℕ → List ℕ → Type 0
  Kept count starts pages = AreKept format sizes leaves rows count starts pages

  pub none_kept : Kept 0 [] []
  none_kept = record {
    few = omega arith;
    inside = λ r i below. absurd (omega arith);
    each = λ r i below. absurd (omega arith);
  }

  -- the pages of the fields of row r
  row_list : (r next : ℕ) → r < length rows → next ≡ leaves + pages_before_row (page_counts format rows) r
      → row_first_pages format sizes next (stored_in rows r)
      ≡ first_pages format (number_behind format sizes leaves rows r) (stored_in rows r)
  row_list r next inside place =
      ap (λ (number : ℕ → ℕ → ℕ). first_pages format number (stored_in rows r))
      (row_number_is format sizes leaves rows r next inside place)

  list_at : (r i : ℕ) → i < length (stored_in rows r)
      → slice_index (first_pages format (number_behind format sizes leaves rows r) (stored_in rows r)) i
      ≡ first_page_behind format sizes leaves rows r i
  list_at r i inside =
      get_or-map-range_with_len
      (λ i. first_page (number_behind format sizes leaves rows r i)
      (pages_of_stored format (stored_at (stored_in rows r) i))) 0 (length (stored_in rows r)) i i 0 inside
      (omega arith)

  module _ (r next : ℕ) (starts starts' pages pages' : List ℕ) (kept : Kept r starts pages) (row : r < length rows)
      (place : next ≡ leaves + pages_before_row (page_counts format rows) r)
      (keeps : KeepsRow (stored_in rows r) r (row_first_pages format sizes next (stored_in rows r)) starts starts'
      pages pages') where
    long : length pages ≤ length pages'
    long = begins_long pages pages' keeps.begins

    -- of the rows that were there, and of the new one
    module _ (q i : ℕ) (within : i < length (stored_in rows q)) (went : (stored_at (stored_in rows q) i).off ≡ true)
      where
        left_inside : q < r → slice_index starts' q + i < length pages'
        left_inside below =
            omega (arith, keeps.same q below, kept.inside q i below within went, long)

        left_each : q < r → first_page_in starts' pages' q i 0 ≡ first_page_behind format sizes leaves rows q i
        left_each below =
            ap (λ (n : ℕ). slice_index pages' (n + i)) (keeps.same q below)
            ∙ begins_at pages pages' (slice_index starts q + i) keeps.begins (kept.inside q i below within went)
            ∙ kept.each q i below within went

        right_pages : q ≡ r
            → pages' ≡ pages ++ first_pages format (number_behind format sizes leaves rows q) (stored_in rows q)
        right_pages same =
            subst (λ (k : ℕ). (j : ℕ) → j < length (stored_in rows k) → (stored_at (stored_in rows k) j).off ≡ true
            → pages' ≡ pages ++ row_first_pages format sizes next (stored_in rows r)) (sym same) keeps.all i within went
            ∙ ap (λ (ns : List ℕ). pages ++ ns) (row_list r next row place)
            ∙ ap (λ (k : ℕ). pages ++ first_pages format (number_behind format sizes leaves rows k) (stored_in rows k))
            (sym same)

        right_start : q ≡ r → slice_index starts' q ≡ length pages
        right_start same =
            subst (λ (k : ℕ). (j : ℕ) → j < length (stored_in rows k) → (stored_at (stored_in rows k) j).off ≡ true
            → slice_index starts' k ≡ length pages) (sym same) keeps.start i within went

        right_inside : q ≡ r → slice_index starts' q + i < length pages'
        right_inside same =
            let list = first_pages format (number_behind format sizes leaves rows q) (stored_in rows q) in
            omega (
              arith,
              right_start same,
              ap length (right_pages same),
              length-append pages list,
              length-map-range_with_len
                  (λ i. first_page (number_behind format sizes leaves rows q i)
                  (pages_of_stored format (stored_at (stored_in rows q) i))) 0 (length (stored_in rows q)),
              within,
            )

        right_each : q ≡ r → first_page_in starts' pages' q i 0 ≡ first_page_behind format sizes leaves rows q i
        right_each same =
            let list = first_pages format (number_behind format sizes leaves rows q) (stored_in rows q) in
            ap (λ (n : ℕ). slice_index pages' (n + i)) (right_start same)
            ∙ ap (λ (ns : List ℕ). slice_index ns (length pages + i)) (right_pages same)
            ∙ get_or-append-add pages list i 0 ∙ list_at q i within

    pub row_kept : Kept (r + 1) starts' pages'
    row_kept = record {
      few = keeps.few;
      inside = λ q i below within went. elim (cases_lt q r) [
        | inl left ↦ left_inside q i within went left
        | inr right ↦ right_inside q i within went (omega (arith, below, right))
      ];
      each = λ q i below within went. elim (cases_lt q r) [
        | inl left ↦ left_each q i within went left
        | inr right ↦ right_each q i within went (omega (arith, below, right))
      ];
    }

  pub all_kept : (count : ℕ) (starts pages : List ℕ) → length rows ≤ count → Kept count starts pages
      → AreFirstPages format sizes leaves rows starts pages
  all_kept count starts pages all kept r i below within went = kept.each r i (omega arith) within went

-- a row none of whose fields goes off the page has no pages
module _ (format : Format) (sizes : List ℕ) (at : ℕ) (row : List Stored)
    (stays : (i : ℕ) → i < length row → (stored_at row i).off ≡ false) where
  none_at : (i : ℕ) → i < length row → pages_of_stored format (stored_at row i) ≡ 0
  none_at i within =
      ap (λ (b : Bool). cond b (pages_for (length (off_bytes format (stored_at row i)))) 0) (stays i within)

  pub no_pages : row_pages format sizes at row ≡ []
  no_pages =
      none 0 (length row) (λ i low high. ap (λ (n : ℕ). map (part i) (range_with_len 0 n)) (none_at i (omega arith)))
    where
      part : ℕ → ℕ → Numbered
      part i k = (
        row_number sizes at (row_counts format row) i k,
        value_page_bytes (row_number sizes at (row_counts format row) i) (off_bytes format (stored_at row i)) k,
      )

      none : {X : Type 0} {f : ℕ → List X} (a n : ℕ) → ((i : ℕ) → a ≤ i → i < a + n → f i ≡ [])
          → flat_map f (range_with_len a n) ≡ []
      none a zero each = refl
      none {X} {f} a (suc n) each =
          ap (λ (xs : List X). xs ++ flat_map f (range_with_len (a + 1) n)) (each a (omega arith) (omega arith))
          ∙ none (a + 1) n (λ i low high. each i (omega arith) (omega arith))

  pub no_counts : sum (row_counts format row) ≡ 0
  no_counts = none row none_at
    where
      none : (fields : List Stored) → ((i : ℕ) → i < length fields → pages_of_stored format (stored_at fields i) ≡ 0)
          → sum (map (pages_of_stored format) fields) ≡ 0
      none [] each = refl
      none (field ∷ fields) each =
          let first : pages_of_stored format field ≡ 0 = each 0 (omega arith) in
          let rest : sum (map (pages_of_stored format) fields) ≡ 0 =
          none fields (λ i within. each (suc i) (omega arith)) in
          let step = sum_by-cons (λ (n : ℕ). n) (pages_of_stored format field) (map (pages_of_stored format) fields) in
          omega arith

-- a place is listed behind zeros
pub more_none : (starts : List ℕ) (q : ℕ) → slice_index (starts ++ 0 ∷ []) q ≡ slice_index starts q
more_none [] zero = refl
more_none [] (suc q) = refl
more_none (n ∷ starts) zero = refl
more_none (n ∷ starts) (suc q) = more_none starts q

-- what a row keeps, none of whose fields goes off, and another one
pub stays_kept : (row : List Stored) (r : ℕ) (list starts pages : List ℕ)
    → ((i : ℕ) → i < length row → (stored_at row i).off ≡ false) → length starts ≤ r
    → KeepsRow row r list starts starts pages pages
stays_kept row r list starts pages stays few = record {
  few = omega arith;
  same = λ q below. refl;
  begins = take_all (length pages) pages (omega arith);
  start = λ i within went. absurd (true≢false (sym went ∙ stays i within));
  all = λ i within went. absurd (true≢false (sym went ∙ stays i within));
}

pub went_kept : (row : List Stored) (r : ℕ) (list starts starts' pages pages' : List ℕ) → length starts' ≡ r + 1
    → slice_index starts' r ≡ length pages → ((q : ℕ) → q < r → slice_index starts' q ≡ slice_index starts q)
    → pages' ≡ pages ++ list → KeepsRow row r list starts starts' pages pages'
went_kept row r list starts starts' pages pages' size here same all = record {
  few = omega arith;
  same = same;
  begins = ap (take (length pages)) all ∙ take-append-le (length pages) pages list (omega arith)
      ∙ take_all (length pages) pages (omega arith);
  start = λ i within went. here;
  all = λ i within went. all;
}

-- what follows where the answer is Ok
pub ok_still : {A E : Type 0} (result : Result A E) (P Q : Type 0) → (P → Q) → OnOk result P → OnOk result Q
ok_still (Ok a) P Q follows holds = follows holds
ok_still (Err e) P Q follows holds = tt
