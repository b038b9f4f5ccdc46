-- The rows of a table that can be built fit their records.
use Rattle.std.proofs.Common.{◌≡◌, ℕ, true, List, [], length, get_or, Some, None, Option, unwrap_or, refl, sym, ap, ◌∙◌}
use Rattle.std.proofs.Common.{arith}
use Rattle.std.specs.Option.{is_some}
use Rattle.std.proofs.lemmas.Bool.{false≢true}
use Rattle.std.proofs.lemmas.List.FromFn.{get_or-map-range_with_len, length-map-range_with_len}
use Rattle.schema_text.specs.TableDef.{TableDef}
use Rattle.row_layout.specs.StoredRow.{Stored, fitted_row}
use Rattle.row_layout.specs.HoldsValues.{AreFitted}
use Rattle.row_store.specs.StoredRows.{Rows, stored_rows, HaveFittedRows}
use Rattle.row_layout.specs.RowKeys.{AreTableRows}
use Rattle.space_builder.specs.layout.Laws.{CanBuild}

some_is : {A : Type 0} (o : Option A) (d : A) → is_some o ≡ true → o ≡ Some (unwrap_or o d)
some_is None d some = absurd (false≢true some)
some_is (Some x) d some = refl

pub fitted_if : (table : TableDef) (rows : Rows) → AreTableRows table rows → HaveFittedRows table rows
    → AreFitted table rows (stored_rows table rows)
unfolding stored_rows
fitted_if table rows are_rows fitted = record {
  count = length-map-range_with_len stored 0 (length rows);
  are_rows = are_rows;
  fit = λ r within.
      some_is (fitted_row table r (get_or rows r [])) [] (fitted r within)
      ∙ ap (λ (row : List Stored). Some row)
      (sym (get_or-map-range_with_len stored 0 (length rows) r r [] within (omega arith)));
}
  where
    stored : ℕ → List Stored
    stored r = unwrap_or (fitted_row table r (get_or rows r [])) []

pub are_fitted : (table : TableDef) (rows : Rows) → CanBuild table rows → AreFitted table rows (stored_rows table rows)
are_fitted table rows can = fitted_if table rows can.are_rows can.fitted
