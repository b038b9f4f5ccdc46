-- The lines that were read are good, and stay so with one more.
use Rattle.std.proofs.Common.{◌≡◌, ℕ, zero, suc, ◌+◌, ◌-◌, ◌<◌, ◌≤◌, true, List, [], ◌∷◌, ◌++◌, length, take}
use Rattle.std.proofs.Common.{drop, get_or, All, IsSome, refl, sym, ap, ◌∙◌, subst, arith, inl, inr}
use Rattle.std.proofs.Math.Seq.{split_at}
use Rattle.std.proofs.lemmas.Bool.{cases_lt}
use Rattle.std.proofs.lemmas.List.{append_assoc, append-nil, length-take-le, length_push}
use Rattle.std.proofs.lemmas.List.{get_or_append_left, get_or_push}
use Rattle.std.proofs.lemmas.List.Concat.{flat_map-append}
use Rattle.std.proofs.lemmas.List.Elements.{All-nil, All-push, All-take, All-get_or}
use Rattle.std.proofs.lemmas.List.Sums.{sum_by-append, sum_by-cons, sum_by_push}
use Rattle.page_source.specs.Verdict.{AllBelow}
use Rattle.column_values.specs.declared.value.Value.{Value}
use Rattle.schema_text.specs.TableDef.{TableDef}
use Rattle.schema_text.specs.Grammar.{line_feed, IsTable}
use Rattle.row_text.specs.Line.{IsLineOf}
use Rattle.row_text.specs.Laws.{HasOneRow}
use Rattle.row_layout.specs.StoredRow.{fitted_row}
use Rattle.row_layout.specs.RowKeys.{RowsRise}
use Rattle.row_store.specs.StoredRows.{Rows, HaveFittedRows}
use Rattle.row_store.specs.BadLine.{line_at, line_length, line_end, IsWholeLine, IsKeyBelow, IsInOrder}
use Rattle.row_store.specs.BadLine.{HasFittedRow, RowChecks}
use Rattle.row_store.specs.calls.Lines.{with_feed, joined_lines, bytes_in, StandsFirst}
use Rattle.row_store.specs.calls.NextRow.{IsNextRow}
use Rattle.row_store.proofs.Pieces.{Lack, IsLineAt, line_there}

-- lines that end with LF, and their rows
pub record GoodLines (table : TableDef) (lines : List (List ℕ)) (rows : Rows) : Type 0 where
  pub count : length lines ≡ length rows
  pub lack : All Lack lines
  pub short : All (λ (line : List ℕ). length line + 1 ≤ 16777216) lines
  pub total : bytes_in lines ≤ 4294967296
  pub each : (k : ℕ) → k < length rows → IsLineOf table (get_or rows k []) (get_or lines k [])
  pub rise : RowsRise table rows
  pub fitted : HaveFittedRows table rows

pub good_none : (table : TableDef) → GoodLines table [] []
good_none table = record {
  count = refl;
  lack = All-nil Lack;
  short = All-nil (λ (line : List ℕ). length line + 1 ≤ 16777216);
  total = omega arith;
  each = λ k below. absurd (omega arith);
  rise = λ keys r below. absurd (omega arith);
  fitted = λ r below. absurd (omega arith);
}

-- one more at the end
at_front : {X : Type 0} (xs : List X) (x d : X) (k : ℕ) → k < length xs → get_or xs k d ≡ get_or (xs ++ x ∷ []) k d
at_front xs x d k below = sym (get_or_append_left xs (x ∷ []) d k below)

at_last : {X : Type 0} (xs : List X) (x d : X) (k : ℕ) → length xs ≡ k → x ≡ get_or (xs ++ x ∷ []) k d
at_last xs x d k same = sym (get_or_push xs x d k same)

pub good_more : (table : TableDef) (lines : List (List ℕ)) (rows : Rows) (line : List ℕ) (row : List Value)
    → GoodLines table lines rows → Lack line → length line + 1 ≤ 16777216
    → bytes_in lines + (length line + 1) ≤ 4294967296 → IsNextRow table rows line row
    → GoodLines table (lines ++ line ∷ []) (rows ++ row ∷ [])
good_more table lines rows line row good lacks short total next =
    let count = good.count in
    let more = length_push rows row in
    let sum = sum_by_push (λ (l : List ℕ). length l + 1) lines line in
    record {
      count = length_push lines line ∙ ap (λ n. n + 1) count ∙ sym more;
      lack = All-push Lack lines line good.lack lacks;
      short = All-push (λ (l : List ℕ). length l + 1 ≤ 16777216) lines line good.short short;
      total = omega arith;
      each = each;
      rise = rise;
      fitted = fitted;
    }
  where
    each : (k : ℕ) → k < length (rows ++ row ∷ [])
        → IsLineOf table (get_or (rows ++ row ∷ []) k []) (get_or (lines ++ line ∷ []) k [])
    each k below = let more = length_push rows row in elim (cases_lt k (length rows)) [
      | inl old ↦
          let count = good.count in
          subst (λ (v : List Value). IsLineOf table v (get_or (lines ++ line ∷ []) k [])) (at_front rows row [] k old)
          (subst (IsLineOf table (get_or rows k [])) (at_front lines line [] k (omega arith)) (good.each k old))
      | inr new ↦
          let count = good.count in
          subst (λ (v : List Value). IsLineOf table v (get_or (lines ++ line ∷ []) k []))
          (at_last rows row [] k (omega arith))
          (subst (IsLineOf table row) (at_last lines line [] k (omega arith)) next.has_line)
    ]

    rise : RowsRise table (rows ++ row ∷ [])
    rise keys r below = let more = length_push rows row in elim (cases_lt (r + 1) (length rows)) [
      | inl old ↦
          subst (λ (v : List Value). IsKeyBelow table v (get_or (rows ++ row ∷ []) (r + 1) []))
          (at_front rows row [] r (omega arith))
          (subst (IsKeyBelow table (get_or rows r [])) (at_front rows row [] (r + 1) old) (good.rise keys r old))
      | inr new ↦
          let last : length rows - 1 ≡ r = omega arith in
          subst (λ (v : List Value). IsKeyBelow table v (get_or (rows ++ row ∷ []) (r + 1) []))
          (at_front rows row [] r (omega arith))
          (subst (IsKeyBelow table (get_or rows r [])) (at_last rows row [] (r + 1) (omega arith))
          (subst (λ n. IsKeyBelow table (get_or rows n []) row) last (next.rises keys (omega arith))))
    ]

    fitted : HaveFittedRows table (rows ++ row ∷ [])
    fitted k below = let more = length_push rows row in elim (cases_lt k (length rows)) [
      | inl old ↦
          subst (λ (v : List Value). IsSome (fitted_row table k v)) (at_front rows row [] k old) (good.fitted k old)
      | inr new ↦
          let last : length rows ≡ k = omega arith in
          subst (λ (v : List Value). IsSome (fitted_row table k v)) (at_last rows row [] k last)
          (subst (λ n. IsSome (fitted_row table n row)) last next.fits)
    ]

pub joined_push : (lines : List (List ℕ)) (line : List ℕ)
    → joined_lines (lines ++ line ∷ []) ≡ joined_lines lines ++ with_feed line
joined_push lines line =
    flat_map-append with_feed lines (line ∷ [])
    ∙ ap (λ (more : List ℕ). joined_lines lines ++ more) (append-nil (with_feed line))

-- the lines of a text that begins with good lines pass their checks
module _ (one : HasOneRow) (table : TableDef) (is : IsTable table) (lines : List (List ℕ)) (rows : Rows)
    (good : GoodLines table lines rows) (text rest : List ℕ) (text_is : text ≡ joined_lines lines ++ rest) where
  -- a line among them
  module _ (j : ℕ) (below : j < length lines) where
    abbrev this : List ℕ
    this = get_or lines j []

    behind : List ℕ
    behind = joined_lines (drop (suc j) lines)

    split_text : text ≡ joined_lines (take j lines) ++ (with_feed this ++ joined_lines (drop (suc j) lines) ++ rest)
    split_text =
        text_is
        ∙ ap (λ (ls : List (List ℕ)). joined_lines ls ++ rest) (split_at lines j [] below)
        ∙ ap (λ (front : List ℕ). front ++ rest)
        (flat_map-append with_feed (take j lines) (this ∷ drop (suc j) lines))
        ∙ append_assoc (joined_lines (take j lines)) (with_feed this ++ joined_lines (drop (suc j) lines)) rest

    stands : StandsFirst (with_feed this ++ joined_lines (drop (suc j) lines) ++ rest) this true
        (joined_lines (drop (suc j) lines) ++ rest)
    stands = record {
      is =
          append_assoc (with_feed this) (joined_lines (drop (suc j) lines)) rest
          ∙ append_assoc this (line_feed ∷ []) (joined_lines (drop (suc j) lines) ++ rest);
      lacks = All-get_or Lack lines j [] below good.lack;
      last = λ never. cc;
    }

    pub line_here : IsLineAt text j (bytes_in (take j lines)) this true
    line_here =
        subst (λ k. IsLineAt text k (bytes_in (take j lines)) this true) (length-take-le j lines (omega arith))
        (line_there text (take j lines) _ this true _ split_text (All-take Lack j lines good.lack) stands
        (λ never. cc))

    row_here : IsLineOf table (get_or rows j []) (line_at text j)
    row_here =
        let count = good.count in
        subst (IsLineOf table (get_or rows j [])) (sym line_here.at) (good.each j (omega arith))

    whole_line : IsWholeLine table text j
    whole_line = record { feed = line_here.fed refl; row = get_or rows j []; line = row_here }

    row_is : (row : List Value) → IsLineOf table row (line_at text j) → row ≡ get_or rows j []
    row_is row has = one table row (get_or rows j []) (line_at text j) is has row_here

    short_line : line_length text j ≤ 16777216
    short_line =
        let size = line_here.size in
        let short = All-get_or (λ (l : List ℕ). length l + 1 ≤ 16777216) lines j [] below good.short in omega arith

    ends_within : line_end text j ≤ 4294967296
    ends_within =
        let f : List ℕ → ℕ = λ (l : List ℕ). length l + 1 in
        let end = line_here.end in
        let total = good.total in
        let all : bytes_in lines ≡ bytes_in (take j lines) + bytes_in (this ∷ drop (suc j) lines) =
        ap bytes_in (split_at lines j [] below)
        ∙ sum_by-append (λ (l : List ℕ). length l + 1) (take j lines) (this ∷ drop (suc j) lines) in
        let last = sum_by-cons (λ (l : List ℕ). length l + 1) this (drop (suc j) lines) in
        omega arith

    has_fit : HasFittedRow table text j
    has_fit row has =
        let count = good.count in
        subst (λ (v : List Value). IsSome (fitted_row table j v)) (sym (row_is row has)) (good.fitted j (omega arith))

  in_order : (j : ℕ) → j < length lines → IsInOrder table text j
  in_order zero below = tt
  in_order (suc j) below = λ keys a b first second.
      let count = good.count in
      let next : j + 1 ≡ suc j = omega arith in
      let rise : IsKeyBelow table (get_or rows j []) (get_or rows (suc j) []) =
      subst (λ n. IsKeyBelow table (get_or rows j []) (get_or rows n [])) next (good.rise keys j (omega arith)) in
      subst (λ (v : List Value). IsKeyBelow table v b) (sym (row_is j (omega arith) a first))
      (subst (IsKeyBelow table (get_or rows j [])) (sym (row_is (suc j) below b second)) rise)

  pub lines_checked : AllBelow (RowChecks table text) (length lines)
  unfolding RowChecks
  lines_checked j below = (
    short_line j below,
    (ends_within j below, (whole_line j below, (in_order j below, has_fit j below))),
  )
