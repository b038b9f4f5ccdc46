-- The lines of good rows, one after another, are a text without a bad line, and that of these rows alone.
use Rattle.std.proofs.Common.{◌≡◌, ◌≢◌, ℕ, zero, suc, ◌+◌, ◌-◌, ◌<◌, ◌≤◌, Bool, false, cond, eqb, List, []}
use Rattle.std.proofs.Common.{◌∷◌}
use Rattle.std.proofs.Common.{◌++◌, length, take, get_or, All, IsSome, refl, sym, ap, ap₂, ◌∙◌, subst, arith, flat_map}
use Rattle.std.specs.List.{slice_split, sum_by}
use Rattle.std.proofs.lemmas.Bool.{ne_eqb}
use Rattle.std.proofs.lemmas.List.{append_assoc, length_push, get_or_push, take_at, ext_get_or}
use Rattle.std.proofs.lemmas.List.Elements.{All-head, All-tail, All-weaker, All-get_or}
use Rattle.std.proofs.lemmas.List.Splits.{slice_split_at}
use Rattle.std.proofs.lemmas.List.Sums.{sum_by_more_le}
use Rattle.column_values.specs.declared.value.Value.{Value}
use Rattle.schema_text.specs.TableDef.{TableDef}
use Rattle.schema_text.specs.Grammar.{line_feed, IsTable}
use Rattle.schema_text.specs.Cuts.{Lacks}
use Rattle.row_text.specs.Line.{IsLineOf, text_of}
use Rattle.row_text.specs.Laws.{HasOneRow}
use Rattle.row_layout.specs.StoredRow.{fitted_row}
use Rattle.row_layout.specs.RowKeys.{RowsRise}
use Rattle.row_store.specs.StoredRows.{Rows, HaveFittedRows}
use Rattle.row_store.specs.BadLine.{pieces_of, row_lines, line_at, line_length, line_end, feed_length}
use Rattle.row_store.specs.BadLine.{IsWholeLine, IsKeyBelow, IsInOrder, HasFittedRow, RowChecks, AreRowsOf}

-- rows that may be built, and their lines without LF
pub record HaveLines (table : TableDef) (rows : Rows) (lines : List (List ℕ)) : Type 0 where
  pub count : length lines ≡ length rows
  pub each : (r : ℕ) → r < length rows → IsLineOf table (get_or rows r []) (get_or lines r [])
  pub lack : All (Lacks line_feed) lines
  pub short : All (λ (line : List ℕ). length line + 1 ≤ 16777216) lines
  pub total : sum_by (λ (line : List ℕ). length line + 1) lines ≤ 4294967296
  pub rise : RowsRise table rows
  pub fitted : HaveFittedRows table rows

-- lines with their LF, one after another
abbrev with_feed : List ℕ → List ℕ
with_feed line = line ++ line_feed ∷ []

abbrev is_feed : ℕ → Bool
is_feed b = eqb b line_feed

-- these are the lines of that text
pieces : (lines : List (List ℕ)) → All (Lacks line_feed) lines
    → pieces_of (flat_map with_feed lines) ≡ lines ++ [] ∷ []
pieces [] lack = refl
pieces (x ∷ xs) lack =
    ap (slice_split is_feed) (append_assoc x (line_feed ∷ []) (flat_map with_feed xs))
    ∙ slice_split_at is_feed x line_feed (flat_map with_feed xs)
    (All-weaker (λ b. b ≢ line_feed) (λ b. is_feed b ≡ false) (λ b other. ne_eqb b line_feed other) x
    (All-head (Lacks line_feed) x xs lack)) refl
    ∙ ap (λ (rest : List (List ℕ)). x ∷ rest) (pieces xs (All-tail (Lacks line_feed) x xs lack))

lines_of_pieces : (text : List ℕ) (lines : List (List ℕ)) → pieces_of text ≡ lines ++ [] ∷ [] → row_lines text ≡ lines
unfolding row_lines
lines_of_pieces text lines are =
    let size : length (lines ++ [] ∷ []) - 1 ≡ length lines = let more = length_push lines [] in omega arith in
    ap (λ (ps : List (List ℕ)). cond (eqb (length (get_or ps (length ps - 1) [])) 0) (take (length ps - 1) ps) ps) are
    ∙ ap (λ k. cond (eqb (length (get_or (lines ++ [] ∷ []) k [])) 0) (take k (lines ++ [] ∷ [])) (lines ++ [] ∷ []))
    size
    ∙ ap (λ (last : List ℕ). cond (eqb (length last) 0) (take (length lines) (lines ++ [] ∷ [])) (lines ++ [] ∷ []))
    (get_or_push lines [] [] (length lines) refl)
    ∙ take_at lines ([] ∷ []) (length lines) refl

-- the text of rows is that of their lines
joined : (table : TableDef) (rows : Rows) (lines : List (List ℕ)) → length lines ≡ length rows
    → ((r : ℕ) → r < length rows → IsLineOf table (get_or rows r []) (get_or lines r []))
    → text_of table rows ≡ flat_map with_feed lines
unfolding text_of
joined table [] [] count each = refl
joined table [] (l ∷ ls) count each = absurd (omega arith)
joined table (r ∷ rs) [] count each = absurd (omega arith)
joined table (r ∷ rs) (l ∷ ls) count each =
    ap₂ (λ (a b : List ℕ). a ++ b) (sym (each 0 (omega arith)).spelled)
    (joined table rs ls (omega arith) (λ k below. each (suc k) (omega arith)))

module _ (one : HasOneRow) (table : TableDef) (is : IsTable table) (rows : Rows) (lines : List (List ℕ))
    (have : HaveLines table rows lines) where
  pieces_are : pieces_of (text_of table rows) ≡ lines ++ [] ∷ []
  pieces_are = ap pieces_of (joined table rows lines have.count have.each) ∙ pieces lines have.lack

  lines_are : row_lines (text_of table rows) ≡ lines
  lines_are = lines_of_pieces (text_of table rows) lines pieces_are

  piece_count : length (pieces_of (text_of table rows)) ≡ length lines + 1
  piece_count = ap length pieces_are ∙ length_push lines []

  at_line : (k : ℕ) → line_at (text_of table rows) k ≡ get_or lines k []
  at_line k = ap (λ (ls : List (List ℕ)). get_or ls k []) lines_are

  module _ (k : ℕ) (below : k < length lines) where
    size_is : line_length (text_of table rows) k ≡ length (get_or lines k []) + 1
    size_is =
        let count = piece_count in
        let feed : feed_length (text_of table rows) k ≡ 1 =
        ap (λ (b : Bool). cond b 0 1)
        (ne_eqb (k + 1) (length (pieces_of (text_of table rows))) (λ same. omega arith)) in
        let at = ap (λ (l : List ℕ). length l) (at_line k) in
        omega arith

    short_line : line_length (text_of table rows) k ≤ 16777216
    short_line =
        let size = size_is in
        let short = All-get_or (λ (l : List ℕ). length l + 1 ≤ 16777216) lines k [] below have.short in
        omega arith

    ends_within : line_end (text_of table rows) k ≤ 4294967296
    ends_within =
        let size = size_is in
        let total = have.total in
        let sum = sum_by_more_le (λ (l : List ℕ). length l + 1) lines k [] below in
        let before = ap (λ (ls : List (List ℕ)). sum_by (λ (l : List ℕ). length l + 1) (take k ls)) lines_are in
        omega arith

    row_here : IsLineOf table (get_or rows k []) (line_at (text_of table rows) k)
    row_here =
        let count = have.count in
        subst (IsLineOf table (get_or rows k [])) (sym (at_line k)) (have.each k (omega arith))

    whole_line : IsWholeLine table (text_of table rows) k
    whole_line = record {
      feed = let count = piece_count in omega arith;
      row = get_or rows k [];
      line = row_here;
    }

    row_is : (row : List Value) → IsLineOf table row (line_at (text_of table rows) k) → row ≡ get_or rows k []
    row_is row has = one table row (get_or rows k []) (line_at (text_of table rows) k) is has row_here

    has_fit : HasFittedRow table (text_of table rows) k
    has_fit row has =
        let count = have.count in
        subst (λ (v : List Value). IsSome (fitted_row table k v)) (sym (row_is row has)) (have.fitted k (omega arith))

  in_order : (k : ℕ) → k < length lines → IsInOrder table (text_of table rows) k
  in_order zero below = tt
  in_order (suc k) below = λ keys a b first second.
      let count = have.count in
      let next : k + 1 ≡ suc k = omega arith in
      let rise : IsKeyBelow table (get_or rows k []) (get_or rows (suc k) []) =
      subst (λ n. IsKeyBelow table (get_or rows k []) (get_or rows n [])) next (have.rise keys k (omega arith)) in
      subst (λ (v : List Value). IsKeyBelow table v b) (sym (row_is k (omega arith) a first))
      (subst (IsKeyBelow table (get_or rows k [])) (sym (row_is (suc k) below b second)) rise)

  pub rows_of_text : AreRowsOf table (text_of table rows) rows
  unfolding RowChecks
  rows_of_text =
      let all = ap (λ (ls : List (List ℕ)). length ls) lines_are in
      let count = have.count in
      record {
        good = λ k inside.
            let below : k < length lines = omega arith in
            (short_line k below, (ends_within k below, (whole_line k below, (in_order k below, has_fit k below))));
        count = omega arith;
        each = λ k inside. row_here k (omega arith);
      }

-- a text is that of these rows alone
pub one_rows : HasOneRow → (table : TableDef) → IsTable table → (text : List ℕ) (a b : Rows) → AreRowsOf table text a
    → AreRowsOf table text b → a ≡ b
one_rows one table is text a b first second =
    let left = first.count in
    let right = second.count in
    ext_get_or [] a b (omega arith)
    (λ k inside. one table (get_or a k []) (get_or b k []) (line_at text k) is (first.each k inside)
    (second.each k (omega arith)))
