-- A table and a text have an outcome.
use Rattle.std.proofs.Common.{◌≡◌, ℕ, zero, suc, ◌+◌, ◌<◌, ◌≤◌, true, List, [], ◌∷◌, ◌++◌, length}
use Rattle.std.proofs.Common.{get_or, IsSome, Option, Some, None, Result, Ok, Err, refl, sym, subst, inl, inr, arith}
use Rattle.std.specs.Option.{is_some}
use Rattle.std.proofs.lemmas.Bool.{cases_lt}
use Rattle.std.proofs.lemmas.List.{length_push, get_or_append_left, get_or_push}
use Rattle.page_source.specs.Verdict.{AllBelow, Then}
use Rattle.page_source.proofs.Decided.{IsDecided, same_decided, both_decided, given_decided, not_decided}
use Rattle.page_source.proofs.Decided.{number_decided, below_decided, most_decided, truth_decided}
use Rattle.page_source.proofs.Answered.{HasAnswer, Check-answered, Then-answered, Each-answered, All-answered}
use Rattle.column_values.specs.declared.value.Value.{Value}
use Rattle.column_values.specs.Laws.{HasOneValue}
use Rattle.schema_text.specs.TableDef.{TableDef, index_at}
use Rattle.schema_text.specs.Grammar.{IsTable}
use Rattle.schema_text.specs.IndexFields.{leaf_fields, clustered_positions}
use Rattle.row_text.specs.Line.{IsLineOf}
use Rattle.row_text.specs.Laws.{HasOneRow}
use Rattle.table_check.proofs.PageDecisions.{key_below}
use Rattle.row_layout.specs.StoredRow.{fitted_row}
use Rattle.row_layout.specs.RowKeys.{column_key}
use Rattle.row_layout.specs.Laws.{ValuesFit}
use Rattle.row_store.specs.declared.stop.RowsWhy.{RowsWhy}
use Rattle.row_store.specs.declared.stop.RowsWhy.TheVariants.{Long, Input, Line, Order, Big}
use Rattle.space_builder.specs.declared.built.BuildStop.{BuildStop}
use Rattle.space_builder.specs.declared.built.BuildStop.TheVariants as stops
use Rattle.row_store.specs.StoredRows.{Rows}
use Rattle.space_builder.specs.layout.Layout.{layout_extents}
use Rattle.row_store.specs.BadLine.{BadRow, row_lines, pieces_of, line_at, line_length, line_end, IsWholeLine}
use Rattle.row_store.specs.BadLine.{IsKeyBelow, IsInOrder, HasFittedRow, RefusesRow, RowChecks, RowsChecks, AreRowsOf}
use Rattle.space_builder.specs.build.RootOrder.{RootOrderChecks}
use Rattle.space_builder.specs.build.Outcome.{ComesTo, BuildHasAnOutcome}
use Rattle.space_builder.proofs.building.LineRows.{line_decided}

module _ (value_one : HasOneValue) (fit : ValuesFit) (row_one : HasOneRow) (table : TableDef) (text : List ℕ)
    (is : IsTable table) where
  whole_decided : (k : ℕ) → IsDecided (IsWholeLine table text k)
  whole_decided k =
      same_decided (λ h. record { feed = h.0; row = h.1.0; line = h.1.1 }) (λ h. (h.feed, (h.row, h.line)))
      (both_decided (below_decided (k + 1) (length (pieces_of text)))
      (line_decided value_one fit table is (line_at text k)))

  whole_of : (k : ℕ) → RowChecks table text k None → IsWholeLine table text k
  unfolding RowChecks
  whole_of k good = good.1.1.0

  -- the row of a line is one
  row_is : (k : ℕ) (whole : IsWholeLine table text k) (row : List Value) → IsLineOf table row (line_at text k)
      → whole.row ≡ row
  row_is k whole row has = row_one table whole.row row (line_at text k) is whole.line has

  order_decided : (k : ℕ) → AllBelow (RowChecks table text) k → IsWholeLine table text k
      → IsDecided (IsInOrder table text k)
  order_decided zero before whole = inl tt
  order_decided (suc k) before whole =
      let first = whole_of k (before k (omega arith)) in
      given_decided (not_decided (number_decided (length (clustered_positions table)) 0))
      (same_decided
      (λ below a b has next.
      subst (λ (row : List Value). IsKeyBelow table row b) (row_is k first a has)
      (subst (IsKeyBelow table first.row) (row_is (suc k) whole b next) below))
      (λ rise. rise first.row whole.row first.line whole.line)
      (key_below (leaf_fields table 0) (column_key table first.row) (column_key table whole.row)))

  fit_decided : (k : ℕ) → IsWholeLine table text k → IsDecided (HasFittedRow table text k)
  fit_decided k whole =
      same_decided
      (λ some row has. subst (λ (v : List Value). IsSome (fitted_row table k v)) (row_is k whole row has) some)
      (λ fits. fits whole.row whole.line)
      (truth_decided (is_some (fitted_row table k whole.row)) true)

  -- the checks of a line from its order on, from its row on, and from its place on
  abbrev FitChecks : ℕ → Option BadRow → Type 0
  FitChecks k = RefusesRow k Big (HasFittedRow table text k)

  abbrev OrderChecks : ℕ → Option BadRow → Type 0
  OrderChecks k = Then (RefusesRow k Order (IsInOrder table text k)) (FitChecks k)

  abbrev LineChecks : ℕ → Option BadRow → Type 0
  LineChecks k = Then (RefusesRow k Line (IsWholeLine table text k)) (OrderChecks k)

  abbrev PlaceChecks : ℕ → Option BadRow → Type 0
  PlaceChecks k = Then (RefusesRow k Input (line_end text k ≤ 4294967296)) (LineChecks k)

  check_answered : (k : ℕ) (why : RowsWhy) (condition : Type 0) → IsDecided condition
      → HasAnswer (RefusesRow k why condition)
  check_answered k why condition decided =
      Check-answered (record { line = k + 1; why = why }) condition decided

  order_answered : (k : ℕ) → AllBelow (RowChecks table text) k → IsWholeLine table text k → HasAnswer (OrderChecks k)
  order_answered k before whole =
      Then-answered (RefusesRow k Order (IsInOrder table text k)) (FitChecks k)
      (check_answered k Order (IsInOrder table text k) (order_decided k before whole))
      (λ order. check_answered k Big (HasFittedRow table text k) (fit_decided k whole))

  line_answered : (k : ℕ) → AllBelow (RowChecks table text) k → HasAnswer (LineChecks k)
  line_answered k before =
      Then-answered (RefusesRow k Line (IsWholeLine table text k)) (OrderChecks k)
      (check_answered k Line (IsWholeLine table text k) (whole_decided k)) (order_answered k before)

  place_answered : (k : ℕ) → AllBelow (RowChecks table text) k → HasAnswer (PlaceChecks k)
  place_answered k before =
      Then-answered (RefusesRow k Input (line_end text k ≤ 4294967296)) (LineChecks k)
      (check_answered k Input (line_end text k ≤ 4294967296) (most_decided (line_end text k) 4294967296))
      (λ ends. line_answered k before)

  row_answered : (k : ℕ) → AllBelow (RowChecks table text) k → HasAnswer (RowChecks table text k)
  unfolding RowChecks
  row_answered k before =
      Then-answered (RefusesRow k Long (line_length text k ≤ 16777216)) (PlaceChecks k)
      (check_answered k Long (line_length text k ≤ 16777216) (most_decided (line_length text k) 16777216))
      (λ short. place_answered k before)

  rows_answered : HasAnswer (RowsChecks table text)
  rows_answered =
      Each-answered (length (row_lines text)) (RowChecks table text) (λ k within before. row_answered k before)

  roots_answered : HasAnswer (RootOrderChecks table)
  roots_answered =
      All-answered (length table.indexes) _
      (λ j. Check-answered (index_at table j).line _ (number_decided (index_at table j).root (3 + j)))

  -- the rows of the first lines
  record AreRowsUpTo (count : ℕ) : Type 0 where
    rows : Rows
    size : length rows ≡ count
    each : (k : ℕ) → k < count → IsLineOf table (get_or rows k []) (line_at text k)

  rows_up_to : RowsChecks table text None → (count : ℕ) → count ≤ length (row_lines text) → AreRowsUpTo count
  rows_up_to good zero within = record { rows = []; size = refl; each = λ k below. absurd (omega (arith, below)) }
  rows_up_to good (suc count) within =
      let before = rows_up_to good count (omega (arith, within)) in
      let whole = whole_of count (good count (omega (arith, within))) in
      let size = before.size in
      let more = length_push before.rows whole.row in
      record {
        rows = before.rows ++ whole.row ∷ [];
        size = omega arith;
        each = λ k below. elim (cases_lt k count) [
          | inl less ↦
              subst (λ (row : List Value). IsLineOf table row (line_at text k))
              (sym (get_or_append_left before.rows (whole.row ∷ []) [] k (omega arith))) (before.each k less)
          | inr last ↦
              let here : count ≡ k = omega arith in
              subst (λ (row : List Value). IsLineOf table row (line_at text k))
              (sym (get_or_push before.rows whole.row [] k (omega arith)))
              (subst (λ n. IsLineOf table whole.row (line_at text n)) here whole.line)
        ];
      }

  are_rows : (good : RowsChecks table text None) (all : AreRowsUpTo (length (row_lines text)))
      → AreRowsOf table text all.rows
  are_rows good all = record {
    good = good;
    count = all.size;
    each = λ k below. let size = all.size in all.each k (omega (arith, below));
  }

  abbrev HasOutcome : Type 0
  HasOutcome = (outcome : Result Rows BuildStop) × ComesTo table text outcome

  by_rows : RootOrderChecks table None → (rows : Rows) → AreRowsOf table text rows → HasOutcome
  by_rows roots rows are = elim (cases_lt 256 (layout_extents table rows)) [
    | inl full ↦ (Err stops.Full, (roots, (rows, are, full)))
    | inr fits ↦ (Ok rows, (roots, are, fits))
  ]

  by_lines : RootOrderChecks table None → (bad : Option BadRow) → RowsChecks table text bad → HasOutcome
  by_lines roots None good =
      let all = rows_up_to good (length (row_lines text)) (omega arith) in by_rows roots all.rows (are_rows good all)
  by_lines roots (Some bad) refused = (Err (stops.RowsRefused bad.line bad.why), (roots, refused))

  by_roots : (misplaced : Option ℕ) → RootOrderChecks table misplaced → HasOutcome
  by_roots None roots = by_lines roots rows_answered.0 rows_answered.1
  by_roots (Some line) roots = (Err (stops.RootPlace line), roots)

  some_outcome : HasOutcome
  some_outcome = by_roots roots_answered.0 roots_answered.1

pub has_outcome : HasOneValue → ValuesFit → HasOneRow → BuildHasAnOutcome
has_outcome value_one fit row_one table text is = some_outcome value_one fit row_one table text is
