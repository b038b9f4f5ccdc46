-- The text of a value, or of no value, at the head of a text.
use Rattle.std.proofs.Common.{◌≡◌, ℕ, List, ◌++◌, false, Result, Ok, Err, inl, inr, sym, ap, ◌∙◌}
use Rattle.std.specs.Prelude.{codes}
use Rattle.std.proofs.lemmas.Bool.{false≢true}
use Rattle.column_values.specs.declared.value.Value.{Value}
use Rattle.column_values.specs.Types.{IsColumnType}
use Rattle.schema_text.specs.declared.table.Column.{Column}
use Rattle.row_text.specs.declared.row.RowError.{RowError}
use Rattle.row_text.specs.declared.row.RowError.TheVariants.{Refused, Memory}
use Rattle.row_text.specs.Values.{value_text}
use Rattle.row_text.specs.calls.Values.{EndsValue, BeginsColumn, FindsValue, FindsColumn}
use Rattle.row_text.proofs.Columns.{fits_cases, value_fits, no_null_text}

pub null_refused : (column : Column) (text rest : List ℕ) → IsColumnType column.kind → column.nullable ≡ false
    → text ≡ codes "NULL" ++ rest → (value : Value) (more : List ℕ) → ¬ (BeginsColumn column value text more)
null_refused column text rest known other e value more begins = elim (fits_cases column value begins.fits) [
  | inl none ↦ false≢true (sym other ∙ none.1)
  | inr is ↦ no_null_text column.kind value more rest known is (sym begins.spelled ∙ e)
]

pub column_found : (column : Column) (text : List ℕ) (r : Result (Value × ℕ) RowError)
    → ((rest : List ℕ) → text ≡ codes "NULL" ++ rest → EndsValue rest → ⊥) → FindsValue column.kind text r
    → FindsColumn column text r
column_found column text (Ok found) some is = record {
  fits = value_fits column found.0 is.is_value;
  spelled = is.spelled;
  ends = is.ends;
}
column_found column text (Err Refused) some none = λ value more begins. elim (fits_cases column value begins.fits) [
  | inl null ↦ some more (begins.spelled ∙ ap (λ (v : Value). value_text column.kind v ++ more) null.0) begins.ends
  | inr is ↦ none value more (record { is_value = is; spelled = begins.spelled; ends = begins.ends })
]
column_found column text (Err Memory) some is = tt
