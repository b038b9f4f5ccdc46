-- A text whose lines are good can be built.
use Rattle.std.proofs.Common.{◌≡◌, ℕ, suc, ◌+◌, ◌-◌, ◌<◌, ◌≤◌, List, [], ◌∷◌, length, take, get_or}
use Rattle.std.proofs.Common.{subst, arith, inl, inr}
use Rattle.std.specs.List.{sum_by}
use Rattle.std.proofs.lemmas.Bool.{cases_lt}
use Rattle.std.proofs.lemmas.List.{length-take-le}
use Rattle.std.proofs.lemmas.List.Sums.{sum_by-cons}
use Rattle.schema_text.specs.TableDef.{TableDef}
use Rattle.row_text.specs.Line.{IsLineOf}
use Rattle.row_store.specs.StoredRows.{Rows}
use Rattle.space_builder.specs.layout.Laws.{CanBuild}
use Rattle.row_store.specs.BadLine.{row_lines, line_at, line_end, IsWholeLine, IsInOrder, RowChecks, HasFittedRow}
use Rattle.space_builder.specs.build.Laws.{IsGoodText, GoodTextsCanBuild}

-- the lines before one have a byte each, at least
lines_long : (lines : List (List ℕ)) → length lines ≤ sum_by (λ (line : List ℕ). length line + 1) lines
lines_long [] = omega arith
lines_long (line ∷ lines) =
    let rest = lines_long lines in
    let all = sum_by-cons (λ (line : List ℕ). length line + 1) line lines in
    omega arith

module _ (table : TableDef) (text : List ℕ) (rows : Rows) (good : IsGoodText table text rows) where
  record LineIsGood (k : ℕ) : Type 0 where
    input : line_end text k ≤ 4294967296
    line : IsWholeLine table text k
    order : IsInOrder table text k
    fitted : HasFittedRow table text k

  line_good : (k : ℕ) → k < length rows → LineIsGood k
  unfolding RowChecks
  line_good k below =
      let count = good.are_rows.count in
      let checks = good.are_rows.good k (omega arith) in
      record { input = checks.1.0; line = checks.1.1.0; order = checks.1.1.1.0; fitted = checks.1.1.1.1 }

  few_rows : length rows < 281474976710656
  few_rows = elim (cases_lt 0 (length rows)) [
    | inl some ↦
        let last = length rows - 1 in
        let end = (line_good (length rows - 1) (omega arith)).input in
        let count = good.are_rows.count in
        let long = lines_long (take (length rows - 1) (row_lines text)) in
        let size = length-take-le (length rows - 1) (row_lines text) (omega arith) in
        omega arith
    | inr none ↦ omega arith
  ]

  pub can_build : CanBuild table rows
  can_build = record {
    is_table = good.is_table;
    roots = good.roots;
    are_rows = λ r below. (good.are_rows.each r below).is_row;
    rise = λ keys r below.
        let next : r + 1 ≡ suc r = omega arith in
        let order = subst (IsInOrder table text) next (line_good (r + 1) below).order in
        order keys (get_or rows r []) (get_or rows (r + 1) []) (good.are_rows.each r (omega arith))
        (subst (λ n. IsLineOf table (get_or rows (r + 1) []) (line_at text n)) next (good.are_rows.each (r + 1) below));
    fitted = λ r below. (line_good r below).fitted (get_or rows r []) (good.are_rows.each r below);
    few = few_rows;
    fits = good.fits;
  }

pub good_texts : GoodTextsCanBuild
good_texts table text rows good = can_build table text rows good
