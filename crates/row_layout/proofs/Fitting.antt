-- The columns of a row that is too long go one by one.
use Rattle.std.proofs.Common.{◌≡◌, ◌≢◌, ◌==◌, ℕ, zero, suc, ◌+◌, ◌<◌, ◌≤◌, ltb, max, Bool, true, false, cond, not, ◌&&◌}
use Rattle.std.proofs.Common.{List, [], ◌∷◌, length, get_or, fold, Option, Some, None, refl, sym, ap, ◌∙◌, subst, arith}
use Rattle.std.proofs.Common.{inl, inr, ◌⊎◌, Contains}
use Rattle.std.specs.List.{position_or_len}
use Rattle.std.proofs.lemmas.Bool.{true≢false, false≢true, and_parts, not-true, ltb-true, eqb-true, eqb-false, cases_lt}
use Rattle.std.proofs.lemmas.Bool.{cases_eq}
use Rattle.std.proofs.lemmas.List.FromFn.{get_or-map-range_with_len, length-map-range_with_len}
use Rattle.std.proofs.lemmas.List.Elements.{All-get_or}
use Rattle.page_source.proofs.Members.{contains_here, contains_there}
use Rattle.column_values.specs.declared.field.Field.{Field}
use Rattle.column_values.specs.declared.value.Value.{Value}
use Rattle.column_values.specs.Types.{field_at}
use Rattle.schema_text.specs.declared.table.Format.{Format}
use Rattle.schema_text.specs.TableDef.{TableDef}
use Rattle.schema_text.specs.IndexFields.{leaf_fields}
use Rattle.row_layout.specs.StoredRow.{Stored, stored_at, may_go, going_length, going_lengths, going_over, greatest}
use Rattle.row_layout.specs.StoredRow.{with_off, longest_off, is_too_long, fitted, fitted_row, stored_row}
use Rattle.row_layout.specs.Fitting.{row_after, LosesColumn, FitsAs, FitsNever, Fits, WentOff, AreFieldsOf}
use Rattle.row_layout.specs.Fitting.{HasOneFit}
use Rattle.row_layout.proofs.Columns.{placed}
use Rattle.row_layout.proofs.Stored.{all_near}

-- a field that may go
pub record MayGo (format : Format) (field : Field) (stored : Stored) : Type 0 where
  pub leaves : field.may_leave ≡ true
  pub some : stored.null ≡ false
  pub near : stored.off ≡ false
  pub long : going_over format < length stored.bytes

going_parts : (format : Format) (field : Field) (stored : Stored) → may_go format field stored ≡ true
    → MayGo format field stored
going_parts format field stored is =
    let last = and_parts (field.may_leave && not stored.null && not stored.off)
    (ltb (going_over format) (length stored.bytes)) is in
    let third = and_parts (field.may_leave && not stored.null) (not stored.off) last.0 in
    let second = and_parts field.may_leave (not stored.null) third.0 in
    record {
      leaves = second.0;
      some = not-true stored.null second.1;
      near = not-true stored.off third.1;
      long = ltb-true (going_over format) (length stored.bytes) last.1;
    }

length_may_go : (format : Format) (field : Field) (stored : Stored) → going_length format field stored ≢ 0
    → MayGo format field stored
length_may_go format field stored some = by_test (may_go format field stored) refl
  where
    by_test : (b : Bool) → may_go format field stored ≡ b → MayGo format field stored
    by_test true is = going_parts format field stored is
    by_test false is = absurd (some (ap (λ (b : Bool). cond b (length stored.bytes) 0) is))

-- the greatest of some numbers is one of them, or none is above zero
greatest_from : (xs : List ℕ) (a : ℕ) → (fold max a xs ≡ a) ⊎ Contains xs (fold max a xs)
greatest_from [] a = inl refl
greatest_from (x ∷ xs) a = elim (greatest_from xs (max a x)) [
  | inl same ↦ elim (cases_lt a x) [
    | inl more ↦
        let e : max a x ≡ x = omega arith in
        inr (subst (λ n. Contains (x ∷ xs) n) (sym (same ∙ e)) (contains_here x xs))
    | inr less ↦ let e : max a x ≡ a = omega arith in inl (same ∙ e)
  ]
  | inr there ↦ inr (contains_there x xs (fold max (max a x) xs) there)
]

-- what is written at a place
pub length-with_off : (i : ℕ) (row : List Stored) → length (with_off i row) ≡ length row
length-with_off i [] = refl
length-with_off zero (field ∷ row) = refl
length-with_off (suc i) (field ∷ row) = ap suc (length-with_off i row)

with_off_null : (i j : ℕ) (row : List Stored) → (stored_at (with_off i row) j).null ≡ (stored_at row j).null
with_off_null i j [] = refl
with_off_null zero zero (field ∷ row) = refl
with_off_null zero (suc j) (field ∷ row) = refl
with_off_null (suc i) zero (field ∷ row) = refl
with_off_null (suc i) (suc j) (field ∷ row) = with_off_null i j row

with_off_bytes : (i j : ℕ) (row : List Stored) → (stored_at (with_off i row) j).bytes ≡ (stored_at row j).bytes
with_off_bytes i j [] = refl
with_off_bytes zero zero (field ∷ row) = refl
with_off_bytes zero (suc j) (field ∷ row) = refl
with_off_bytes (suc i) zero (field ∷ row) = refl
with_off_bytes (suc i) (suc j) (field ∷ row) = with_off_bytes i j row

with_off_off : (i j : ℕ) (row : List Stored) → (stored_at (with_off i row) j).off ≡ true
    → ((stored_at row j).off ≡ true) ⊎ (i ≡ j)
with_off_off i j [] off = inl off
with_off_off zero zero (field ∷ row) off = inr refl
with_off_off zero (suc j) (field ∷ row) off = inl off
with_off_off (suc i) zero (field ∷ row) off = inl off
with_off_off (suc i) (suc j) (field ∷ row) off = elim (with_off_off i j row off) [
  | inl before ↦ inl before
  | inr same ↦ inr (ap suc same)
]

-- how many fields are on the page
near_count : List Stored → ℕ
near_count [] = 0
near_count (field ∷ row) = cond field.off 0 1 + near_count row

near_within : (row : List Stored) → near_count row ≤ length row
unfolding near_count
near_within [] = omega arith
near_within (field ∷ row) = by_off field.off (near_within row)
  where
    by_off : (b : Bool) → near_count row ≤ length row → cond b 0 1 + near_count row ≤ length (field ∷ row)
    by_off true h = omega arith
    by_off false h = omega arith

near_less : (i : ℕ) (row : List Stored) → i < length row → (stored_at row i).off ≡ false
    → suc (near_count (with_off i row)) ≡ near_count row
unfolding near_count
near_less i [] within near = absurd (omega arith)
near_less zero (field ∷ row) within near = rw near (omega arith)
near_less (suc i) (field ∷ row) within near =
    let rest = near_less i row (omega arith) near in omega arith

near_some : (i : ℕ) (row : List Stored) → i < length row → (stored_at row i).off ≡ false → 0 < near_count row
near_some i row within near = let less = near_less i row within near in omega arith

module _ (table : TableDef) (row : List Stored) where
  lengths : List ℕ
  lengths = going_lengths table row

  -- the place of the column that goes
  abbrev going : ℕ
  going = position_or_len (λ n. n == greatest (going_lengths table row)) (going_lengths table row)

  length_at : (i : ℕ) → i < length row → get_or (going_lengths table row) i 0
      ≡ going_length table.format (field_at (leaf_fields table 0) i) (stored_at row i)
  unfolding going_lengths
  length_at i within =
      get_or-map-range_with_len
      (λ i. going_length table.format (field_at (leaf_fields table 0) i) (stored_at row i)) 0 (length row) i i 0 within
      (omega arith)

  length-lengths : length (going_lengths table row) ≡ length row
  unfolding going_lengths
  length-lengths =
      length-map-range_with_len
      (λ i. going_length table.format (field_at (leaf_fields table 0) i) (stored_at row i)) 0 (length row)

  -- where some may go, the longest stands there and may go
  going_there : greatest (going_lengths table row) ≢ 0
      → (going < length row) × MayGo table.format (field_at (leaf_fields table 0) going) (stored_at row going)
  going_there some =
      let size = length-lengths in
      let has : Contains (going_lengths table row) (greatest (going_lengths table row)) =
      elim (greatest_from (going_lengths table row) 0) [
        | inl none ↦ absurd (some none)
        | inr there ↦ there
      ] in
      let here = placed (going_lengths table row) (greatest (going_lengths table row)) has in
      let within : going < length row = omega arith in (
        within,
        length_may_go table.format (field_at (leaf_fields table 0) going) (stored_at row going)
            (λ none. some (sym here.1 ∙ length_at going within ∙ none)),
      )

-- columns go until the record isn't too long, or none may go
module _ (table : TableDef) where
  fits_now : (row : List Stored) → is_too_long table row ≡ false → FitsAs table row row
  fits_now row short = record { count = 0; before = λ k below. absurd (omega arith); is = refl; short = short }

  fits_never : (row : List Stored) → is_too_long table row ≡ true → greatest (going_lengths table row) ≡ 0
      → FitsNever table row
  fits_never row long none =
      record { count = 0; before = λ k below. absurd (omega arith); long = long; none = none }

  -- one column more went first
  before_more : (row : List Stored) (count : ℕ) → LosesColumn table row
      → ((k : ℕ) → k < count → LosesColumn table (row_after table k (longest_off table row)))
      → (k : ℕ) → k < suc count → LosesColumn table (row_after table k row)
  before_more row count first rest zero below = first
  before_more row count first rest (suc k) below = rest k (omega arith)

  fits_more : (row : List Stored) (found : Option (List Stored)) → LosesColumn table row
      → Fits table (longest_off table row) found → Fits table row found
  fits_more row (Some found) first fits = record {
    count = suc fits.count;
    before = before_more row fits.count first fits.before;
    is = fits.is;
    short = fits.short;
  }
  fits_more row None first fits = record {
    count = suc fits.count;
    before = before_more row fits.count first fits.before;
    long = fits.long;
    none = fits.none;
  }

  fewer : (row : List Stored) → greatest (going_lengths table row) ≢ 0
      → suc (near_count (longest_off table row)) ≡ near_count row
  unfolding longest_off
  fewer row some =
      let there = going_there table row some in near_less (going table row) row there.0 there.1.near

  fits_from : (most : ℕ) (row : List Stored) → near_count row ≤ most → Fits table row (fitted table most row)
  fits_from zero row few = by_test (is_too_long table row) refl
    where
      by_test : (b : Bool) → is_too_long table row ≡ b → Fits table row (cond b None (Some row))
      by_test true long = elim (cases_eq (greatest (going_lengths table row)) 0) [
        | inl none ↦ fits_never row long none
        | inr some ↦
            let there = going_there table row some in
            let near = near_some (going table row) row there.0 there.1.near in absurd (omega arith)
      ]
      by_test false short = fits_now row short
  fits_from (suc most) row few =
      by_tests (λ some. fits_from most (longest_off table row) (let less = fewer row some in omega arith))
      (is_too_long table row) (greatest (going_lengths table row) == 0) refl refl
    where
      by_tests : (greatest (going_lengths table row) ≢ 0
          → Fits table (longest_off table row) (fitted table most (longest_off table row)))
          → (b c : Bool) → is_too_long table row ≡ b → (greatest (going_lengths table row) == 0) ≡ c
          → Fits table row (cond b (cond c None (fitted table most (longest_off table row))) (Some row))
      by_tests rest false c short some = fits_now row short
      by_tests rest true true long none = fits_never row long (eqb-true (greatest (going_lengths table row)) 0 none)
      by_tests rest true false long test =
          let some : greatest (going_lengths table row) ≢ 0 = eqb-false (greatest (going_lengths table row)) 0 test in
          fits_more row (fitted table most (longest_off table row)) (record { long = long; some = some })
          (rest some)

  pub fits : (i : ℕ) (row : List Value) → Fits table (stored_row table i row) (fitted_row table i row)
  unfolding fitted_row
  fits i row =
      fits_from (length (stored_row table i row)) (stored_row table i row) (near_within (stored_row table i row))

  -- what a field was is what it becomes
  went_as : (format : Format) (field : Field) (old now : Stored) → now.null ≡ old.null → now.bytes ≡ old.bytes
      → WentOff format field old → WentOff format field now
  went_as format field old now null bytes went = record {
    some = null ∙ went.some;
    leaves = went.leaves;
    long = subst (λ (xs : List ℕ). going_over format < length xs) (sym bytes) went.long;
  }

  fields_more : (old row : List Stored) → AreFieldsOf table old row → LosesColumn table row
      → AreFieldsOf table old (longest_off table row)
  unfolding longest_off
  fields_more old row are loses = record {
    count = length-with_off (going table row) row ∙ are.count;
    each = λ i within.
        let field = field_at (leaf_fields table 0) i in
        let null = with_off_null (going table row) i row in
        let bytes = with_off_bytes (going table row) i row in
        let here = are.each i within in
        record {
          null = null ∙ here.null;
          bytes = bytes ∙ here.bytes;
          went = λ off.
              went_as table.format field (stored_at row i) (stored_at (with_off (going table row) row) i) null bytes
              (elim (with_off_off (going table row) i row off) [
                | inl before ↦ here.went before
                | inr same ↦
                    subst (λ j. WentOff table.format (field_at (leaf_fields table 0) j) (stored_at row j)) same
                    (gone (going_there table row loses.some).1)
              ]);
        };
  }
    where
      gone : {format : Format} {field : Field} {stored : Stored} → MayGo format field stored
          → WentOff format field stored
      gone may = record { some = may.some; leaves = may.leaves; long = may.long }

  fields_after : (old : List Stored) (n : ℕ) (row : List Stored) → AreFieldsOf table old row
      → ((k : ℕ) → k < n → LosesColumn table (row_after table k row)) → AreFieldsOf table old (row_after table n row)
  fields_after old zero row are loses = are
  fields_after old (suc n) row are loses =
      fields_after old n (longest_off table row) (fields_more old row are (loses 0 (omega arith)))
      (λ k below. loses (suc k) (omega arith))

  -- a row as it is stored: its fields have the values that they had, and it isn't too long
  pub fitted_fields : (i : ℕ) (row : List Value) (found : List Stored) → fitted_row table i row ≡ Some found
      → AreFieldsOf table (stored_row table i row) found × (is_too_long table found ≡ false)
  fitted_fields i row found is =
      let old = stored_row table i row in
      let made : FitsAs table old found = subst (Fits table old) is (fits i row) in
      let first : AreFieldsOf table old old = record {
        count = refl;
        each = λ j within. record {
          null = refl;
          bytes = refl;
          went = λ off. absurd (false≢true (sym (All-get_or (λ (field : Stored). field.off ≡ false) old j
              (record { null = true; off = false; bytes = [] }) within (all_near table i row)) ∙ off));
        };
      } in
      (subst (AreFieldsOf table old) (sym made.is) (fields_after old made.count old first made.before), made.short)

  -- columns go in one way
  count_same : (row a b : List Stored) (first : FitsAs table row a) (second : FitsAs table row b)
      → ¬ (first.count < second.count)
  count_same row a b first second less =
      true≢false (sym (second.before first.count less).long ∙ ap (is_too_long table) (sym first.is) ∙ first.short)

  never_fits : (row a : List Stored) → FitsAs table row a → FitsNever table row → ⊥
  never_fits row a first never = elim (cases_lt first.count never.count) [
    | inl less ↦
        true≢false (sym (never.before first.count less).long ∙ ap (is_too_long table) (sym first.is) ∙ first.short)
    | inr most ↦ elim (cases_lt never.count first.count) [
      | inl less ↦ (first.before never.count less).some never.none
      | inr least ↦
          let same : never.count ≡ first.count = omega arith in
          true≢false (sym never.long ∙ ap (λ n. is_too_long table (row_after table n row)) same
          ∙ ap (is_too_long table) (sym first.is) ∙ first.short)
    ]
  ]

  pub fit_once : (row : List Stored) → HasOneFit table row
  fit_once row = record {
    one = λ a b first second.
        let less = count_same row a b first second in
        let more = count_same row b a second first in
        let same : first.count ≡ second.count = elim (cases_lt first.count second.count) [
          | inl below ↦ absurd (less below)
          | inr least ↦ elim (cases_lt second.count first.count) [
            | inl below ↦ absurd (more below)
            | inr most ↦ omega arith
          ]
        ] in
        first.is ∙ ap (λ n. row_after table n row) same ∙ sym second.is;
    never = never_fits row;
  }
