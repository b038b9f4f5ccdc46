-- The longest field that may go off the page, and a row that is fitted.
use Rattle.std.proofs.Common.{◌≡◌, ◌≢◌, ◌==◌, ℕ, suc, ◌+◌, ◌<◌, ◌≤◌, max, Bool, true, false, cond, eqb, List}
use Rattle.std.proofs.Common.{length, take, get_or, Some, None, sym, ap, ◌∙◌, arith, inl, inr}
use Rattle.std.specs.List.{position_or_len}
use Rattle.std.proofs.lemmas.Bool.{cases_lt, eq-eqb, ne_eqb}
use Rattle.std.proofs.lemmas.List.{take_all}
use Rattle.std.proofs.lemmas.List.FromFn.{length-map-range_with_len, get_or-map-range_with_len}
use Rattle.std.proofs.lemmas.List.Sums.{fold_more, position_or_len_is}
use Rattle.column_values.specs.Types.{field_at}
use Rattle.schema_text.specs.TableDef.{TableDef}
use Rattle.schema_text.specs.IndexFields.{leaf_fields}
use Rattle.row_layout.specs.StoredRow.{Stored, stored_at, going_length, going_lengths, greatest, longest_off}
use Rattle.row_layout.specs.StoredRow.{is_too_long}
use Rattle.row_layout.specs.StoredRow.{with_off, fitted}
use Rattle.row_store.specs.calls.RowFields.{GoesNext}

-- the greatest of the first so many lengths, and where it stands first
pub record IsLongest (lengths : List ℕ) (i most place : ℕ) : Type 0 where
  pub most_is : most ≡ greatest (take i lengths)
  pub above : (k : ℕ) → k < i → get_or lengths k 0 ≤ most
  pub within : most ≢ 0 → place < i
  pub at : most ≢ 0 → get_or lengths place 0 ≡ most
  pub first : most ≢ 0 → (k : ℕ) → k < place → get_or lengths k 0 < most

pub longest_new : (lengths : List ℕ) (i most place length' : ℕ) → IsLongest lengths i most place → i < length lengths
    → length' ≡ get_or lengths i 0 → most < length' → IsLongest lengths (i + 1) length' i
longest_new lengths i most place length' is inside here more =
    let step = fold_more max 0 lengths i 0 inside in
    let before = is.most_is in
    record {
      most_is = omega arith;
      above = λ k below. elim (cases_lt k i) [
        | inl old ↦ let low = is.above k old in omega arith
        | inr new ↦ let same : get_or lengths k 0 ≡ get_or lengths i 0 = ap (λ n. get_or lengths n 0) (omega arith) in
            omega arith
      ];
      within = λ some. omega arith;
      at = λ some. sym here;
      first = λ some k below. let low = is.above k below in omega arith;
    }

pub longest_old : (lengths : List ℕ) (i most place length' : ℕ) → IsLongest lengths i most place → i < length lengths
    → length' ≡ get_or lengths i 0 → length' ≤ most → IsLongest lengths (i + 1) most place
longest_old lengths i most place length' is inside here less =
    let step = fold_more max 0 lengths i 0 inside in
    let before = is.most_is in
    record {
      most_is = omega arith;
      above = λ k below. elim (cases_lt k i) [
        | inl old ↦ is.above k old
        | inr new ↦ let same : get_or lengths k 0 ≡ get_or lengths i 0 = ap (λ n. get_or lengths n 0) (omega arith) in
            omega arith
      ];
      within = λ some. let old = is.within some in omega arith;
      at = is.at;
      first = is.first;
    }

pub length-going : (table : TableDef) (row : List Stored) → length (going_lengths table row) ≡ length row
unfolding going_lengths
length-going table row =
    length-map-range_with_len (λ i. going_length table.format (field_at (leaf_fields table 0) i) (stored_at row i)) 0
    (length row)

pub going_at : (table : TableDef) (row : List Stored) (i : ℕ) → i < length row
    → get_or (going_lengths table row) i 0
    ≡ going_length table.format (field_at (leaf_fields table 0) i) (stored_at row i)
unfolding going_lengths
going_at table row i within =
    get_or-map-range_with_len (λ i. going_length table.format (field_at (leaf_fields table 0) i) (stored_at row i)) 0
    (length row) i i 0 within (omega arith)

-- at the end of the row
most_of_all : (table : TableDef) (row : List Stored) (i most place : ℕ)
    → IsLongest (going_lengths table row) i most place → length row ≤ i
    → most ≡ greatest (going_lengths table row)
most_of_all table row i most place is all =
    let size = length-going table row in
    is.most_is ∙ ap greatest (take_all i (going_lengths table row) (omega arith))

pub goes_none : (table : TableDef) (row : List Stored) (i most place : ℕ)
    → IsLongest (going_lengths table row) i most place → length row ≤ i → most ≡ 0 → GoesNext table row None
goes_none table row i most place is all none = sym (most_of_all table row i most place is all) ∙ none

pub goes_some : (table : TableDef) (row : List Stored) (i most place : ℕ)
    → IsLongest (going_lengths table row) i most place → length row ≤ i → i ≤ length row → most ≢ 0
    → GoesNext table row (Some place)
goes_some table row i most place is all upto some =
    let size = length-going table row in
    let most_is : most ≡ greatest (going_lengths table row) = most_of_all table row i most place is all in
    let inside = is.within some in
    let test : ℕ → Bool = λ n. eqb n (greatest (going_lengths table row)) in
    let found : position_or_len (λ n. n == greatest (going_lengths table row)) (going_lengths table row) ≡ place =
    position_or_len_is (λ n. n == greatest (going_lengths table row)) (going_lengths table row) place 0 (omega arith)
    (λ k below.
    let low = is.first some k below in
    ne_eqb (get_or (going_lengths table row) k 0) (greatest (going_lengths table row)) (λ same. omega arith))
    (λ less. eq-eqb (get_or (going_lengths table row) place 0) (greatest (going_lengths table row))
    (is.at some ∙ most_is)) in
    ((λ none. some (most_is ∙ none)), sym found, omega arith)

-- one field more goes, or none, or the record is short enough
pub fit_more : (table : TableDef) (row : List Stored) (i n m : ℕ) → is_too_long table row ≡ true
    → GoesNext table row (Some i) → n ≡ suc m → fitted table n row ≡ fitted table m (with_off i row)
unfolding longest_off
fit_more table row i n m long goes is =
    let none : eqb (greatest (going_lengths table row)) 0 ≡ false =
    ne_eqb (greatest (going_lengths table row)) 0 goes.0 in
    ap (λ k. fitted table k row) is
    ∙ ap (λ b. cond b
    (cond (eqb (greatest (going_lengths table row)) 0) None (fitted table m (longest_off table row))) (Some row)) long
    ∙ ap (λ b. cond b None (fitted table m (longest_off table row))) none
    ∙ ap (λ k. fitted table m (with_off k row)) (sym goes.1)
