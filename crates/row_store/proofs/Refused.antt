-- The line behind good ones that is refused, and a text that ends there.
use Rattle.std.proofs.Common.{◌≡◌, ◌≢◌, ℕ, zero, suc, ◌+◌, ◌-◌, ◌*◌, ◌<◌, ◌≤◌, Bool, true, false, List, [], ◌∷◌, ◌++◌}
use Rattle.std.proofs.Common.{length}
use Rattle.std.proofs.Common.{get_or, All, IsSome, Some, None, refl, sym, ap, ◌∙◌, subst, arith, inl, inr}
use Rattle.std.specs.Option.{is_some}
use Rattle.std.specs.Prelude.{codes}
use Rattle.std.proofs.lemmas.List.Elements.{All-head, All-tail, All-from_get_or}
use Rattle.std.proofs.lemmas.Bool.{false≢true}
use Rattle.std.proofs.lemmas.List.{append-nil, length-append}
use Rattle.std.proofs.lemmas.List.Sums.{sum_by-cons}
use Rattle.column_values.specs.declared.value.Value.{Value}
use Rattle.schema_text.specs.TableDef.{TableDef}
use Rattle.schema_text.specs.Grammar.{IsTable, line_feed}
use Rattle.row_text.specs.Line.{IsLineOf, line_of, values_of}
use Rattle.row_text.specs.Laws.{HasOneRow}
use Rattle.row_layout.specs.StoredRow.{fitted_row}
use Rattle.row_store.specs.declared.stop.RowsWhy.{RowsWhy}
use Rattle.row_store.specs.declared.stop.RowsWhy.TheVariants.{Long, Input, Line, Order, Big}
use Rattle.row_store.specs.StoredRows.{Rows}
use Rattle.row_store.specs.BadLine.{row_lines, line_at, line_length, line_end, IsWholeLine, IsKeyBelow}
use Rattle.row_store.specs.BadLine.{IsInOrder, HasFittedRow, RowChecks, RowsChecks, AreRowsOf}
use Rattle.row_store.specs.calls.Lines.{joined_lines, bytes_in, end_size, StandsFirst}
use Rattle.row_store.specs.calls.NextRow.{RisesBehind, RefusesNext}
use Rattle.row_store.specs.ReadRows.{AreGoodRows}
use Rattle.row_store.proofs.Pieces.{IsLineAt, line_there, row_lines_behind, row_lines_none}
use Rattle.row_store.proofs.GoodLines.{GoodLines, line_here, lines_checked}

module _ (one : HasOneRow) (table : TableDef) (is : IsTable table) (lines : List (List ℕ)) (rows : Rows)
    (good : GoodLines table lines rows) (text rest line : List ℕ) (feed : Bool) (after : List ℕ)
    (text_is : text ≡ joined_lines lines ++ rest) (stands : StandsFirst rest line feed after)
    (some : feed ≡ false → length line ≢ 0) where
  next : IsLineAt text (length lines) (bytes_in lines) line feed
  next = line_there text lines rest line feed after text_is good.lack stands some

  -- the rows before the line, by their lines
  row_before : (j : ℕ) (row : List Value) → j < length lines → IsLineOf table row (line_at text j)
      → row ≡ get_or rows j []
  row_before j row below has =
      let count = good.count in
      one table row (get_or rows j []) (line_at text j) is has
      (subst (IsLineOf table (get_or rows j []))
      (sym (line_here one table is lines rows good text rest text_is j below).at) (good.each j (omega arith)))

  -- no row that has the line is greater than the row before it
  not_in_order : (k : ℕ) (row : List Value) → k ≡ length lines → IsLineOf table row line
      → (RisesBehind table rows row → ⊥) → ¬ (IsInOrder table text k)
  not_in_order zero row last has never order =
      let count = good.count in never (λ keys more. absurd (omega arith))
  not_in_order (suc j) row last has never order =
      let count = good.count in
      let before : length rows - 1 ≡ j = omega arith in
      never (λ keys more.
      subst (λ n. IsKeyBelow table (get_or rows n []) row) (sym before)
      (order keys (get_or rows j []) row
      (subst (IsLineOf table (get_or rows j []))
      (sym (line_here one table is lines rows good text rest text_is j (omega arith)).at)
      (good.each j (omega arith)))
      (subst (λ n. IsLineOf table row (line_at text n)) (sym last)
      (subst (IsLineOf table row) (sym next.at) has))))

  is_in_order : (k : ℕ) (row : List Value) → k ≡ length lines → IsLineOf table row line
      → RisesBehind table rows row → IsInOrder table text k
  is_in_order zero row last has rises = tt
  is_in_order (suc j) row last has rises = λ keys a b first second.
      let count = good.count in
      let before : length rows - 1 ≡ j = omega arith in
      let old : a ≡ get_or rows j [] = row_before j a (omega arith) first in
      let there : IsLineOf table b line =
      subst (IsLineOf table b) next.at (subst (λ n. IsLineOf table b (line_at text n)) last second) in
      let new : b ≡ row = one table b row line is there has in
      subst (λ (v : List Value). IsKeyBelow table v b) (sym old)
      (subst (IsKeyBelow table (get_or rows j [])) (sym new)
      (subst (λ n. IsKeyBelow table (get_or rows n []) row) before (rises keys (omega arith))))

  -- why the line is refused
  abbrev Refuses : RowsWhy → Type 0
  Refuses why = RowChecks table text (length lines) (Some (record { line = length lines + 1; why = why }))

  short_line : length line + end_size feed ≤ 16777216 → line_length text (length lines) ≤ 16777216
  short_line short = let size = next.size in omega arith

  ends_within : bytes_in lines + (length line + end_size feed) ≤ 4294967296
      → line_end text (length lines) ≤ 4294967296
  ends_within within = let end = next.end in omega arith

  pub long_refused : 16777216 < length line + end_size feed → Refuses Long
  unfolding RowChecks
  long_refused long = let size = next.size in inl ((λ short. omega arith), refl)

  pub far_refused : length line + end_size feed ≤ 16777216
      → 4294967296 < bytes_in lines + (length line + end_size feed) → Refuses Input
  unfolding RowChecks
  far_refused short far =
      let end = next.end in inr (short_line short, inl ((λ within. omega arith), refl))

  pub open_refused : length line + end_size feed ≤ 16777216
      → bytes_in lines + (length line + end_size feed) ≤ 4294967296 → feed ≡ false → Refuses Line
  unfolding RowChecks
  open_refused short within unfed =
      inr (
        short_line short,
        inr (ends_within within, inl ((λ (w : IsWholeLine table text (length lines)). next.unfed unfed w.feed), refl)),
      )

  whole : (row : List Value) → feed ≡ true → IsLineOf table row line → IsWholeLine table text (length lines)
  whole row fed has = record {
    feed = next.fed fed;
    row = row;
    line = subst (IsLineOf table row) (sym next.at) has;
  }

  no_fit : (row : List Value) → IsLineOf table row line → fitted_row table (length rows) row ≡ None
      → ¬ (HasFittedRow table text (length lines))
  no_fit row has none fits =
      let found : IsSome (fitted_row table (length rows) row) =
      subst (λ n. IsSome (fitted_row table n row)) good.count
      (fits row (subst (IsLineOf table row) (sym next.at) has)) in
      false≢true (sym (ap is_some none) ∙ found)

  pub row_refused : (why : RowsWhy) → length line + end_size feed ≤ 16777216
      → bytes_in lines + (length line + end_size feed) ≤ 4294967296 → feed ≡ true
      → RefusesNext table rows line why → Refuses why
  unfolding RowChecks
  row_refused Line short within fed none =
      inr (
        short_line short,
        inr (
          ends_within within,
          inl (
            (λ (w : IsWholeLine table text (length lines)). none w.row (subst (IsLineOf table w.row) next.at w.line)),
            refl,
          ),
        ),
      )
  row_refused Order short within fed found =
      inr (
        short_line short,
        inr (
          ends_within within,
          inr (whole found.0 fed found.1, inl (not_in_order (length lines) found.0 refl found.1 found.2, refl)),
        ),
      )
  row_refused Big short within fed found =
      inr (
        short_line short,
        inr (
          ends_within within,
          inr (
            whole found.0 fed found.1,
            inr (is_in_order (length lines) found.0 refl found.1 found.2, (no_fit found.0 found.1 found.3, refl)),
          ),
        ),
      )
  row_refused Long short within fed none = absurd none
  row_refused Input short within fed none = absurd none

  pub text_refused : (why : RowsWhy) → Refuses why
      → RowsChecks table text (Some (record { line = length lines + 1; why = why }))
  text_refused why refuses =
      (length lines, next.there, lines_checked one table is lines rows good text rest text_is, refuses)

-- a text of good lines
pub text_is_good : (one : HasOneRow) (table : TableDef) (is : IsTable table) (lines : List (List ℕ)) (rows : Rows)
    (good : GoodLines table lines rows) (text : List ℕ) → text ≡ joined_lines lines → AreRowsOf table text rows
text_is_good one table is lines rows good text text_is =
    let behind : text ≡ joined_lines lines ++ [] = text_is ∙ sym (append-nil (joined_lines lines)) in
    let all : row_lines text ≡ lines =
    ap row_lines behind ∙ row_lines_behind lines [] good.lack ∙ ap (λ more. lines ++ more) row_lines_none
    ∙ append-nil lines in
    let count = ap length all in
    let same = good.count in
    record {
      good = λ k below. lines_checked one table is lines rows good text [] behind k (omega arith);
      count = sym good.count ∙ sym count;
      each = λ k below.
          subst (IsLineOf table (get_or rows k []))
          (sym (line_here one table is lines rows good text [] behind k (omega arith)).at) (good.each k below);
    }

-- each line of a row has some bytes before its LF
row_line_long : (table : TableDef) (row : List Value) (line : List ℕ) → IsLineOf table row line → 1 ≤ length line
unfolding line_of
row_line_long table row line has =
    let front = codes "INSERT INTO `" ++ table.table ++ codes "` VALUES (" ++ values_of table row in
    let size = ap length has.spelled ∙ length-append front (codes ");\n") in
    let whole = length-append line (line_feed ∷ []) in
    omega arith

lines_long : (lines : List (List ℕ)) → All (λ (line : List ℕ). 1 ≤ length line) lines
    → 2 * length lines ≤ bytes_in lines
lines_long [] long = omega arith
lines_long (line ∷ lines) long =
    let here = All-head (λ (l : List ℕ). 1 ≤ length l) line lines long in
    let rest = lines_long lines (All-tail (λ (l : List ℕ). 1 ≤ length l) line lines long) in
    let all = sum_by-cons (λ (l : List ℕ). length l + 1) line lines in
    omega arith

-- there are few rows
pub few_rows : (table : TableDef) (lines : List (List ℕ)) (rows : Rows) → GoodLines table lines rows
    → 2 * length rows ≤ 4294967296
few_rows table lines rows good =
    let count = good.count in
    let total = good.total in
    let long = lines_long lines (All-from_get_or (λ (l : List ℕ). 1 ≤ length l) lines []
    (λ k below. row_line_long table (get_or rows k []) (get_or lines k []) (good.each k (omega arith)))) in
    omega arith

-- the rows of good lines
pub rows_are_good : (table : TableDef) (lines : List (List ℕ)) (rows : Rows) → GoodLines table lines rows
    → AreGoodRows table rows
rows_are_good table lines rows good = record {
  are_rows = λ r below. (good.each r below).is_row;
  rise = good.rise;
  fitted = good.fitted;
  few = let few = few_rows table lines rows good in omega arith;
}
