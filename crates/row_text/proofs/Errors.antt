-- The errors that are passed on.
use Rattle.std.proofs.Common.{◌≡◌, ℕ, List, Result, Ok, Err, sym}
use Rattle.std.specs.Result.{IsErrAnd}
use Rattle.row_text.specs.declared.row.RowError.{RowError}
use Rattle.row_text.specs.declared.row.RowError.TheVariants.{Refused, Memory}
use Rattle.column_values.specs.declared.value.Value.{Value}
use Rattle.schema_text.specs.declared.table.Column.{Column}
use Rattle.row_text.specs.calls.Rows.{IsNoText, ReadsNext, FindsValues}

pub next_failed : (columns : List Column) (text : List ℕ) (values : List Value) (r : Result ℕ RowError) (e : RowError)
    → IsErrAnd r (λ d. d ≡ e) → (e ≡ Refused → IsNoText columns text) → ReadsNext columns text values r
next_failed columns text values (Ok n) e is none = absurd is
next_failed columns text values (Err Refused) e is none = none (sym is)
next_failed columns text values (Err Memory) e is none = tt

pub values_failed : (columns : List Column) (text : List ℕ) (r : Result (List Value) RowError) (e : RowError)
    → IsErrAnd r (λ d. d ≡ e) → (e ≡ Refused → IsNoText columns text) → FindsValues columns text r
values_failed columns text (Ok n) e is none = absurd is
values_failed columns text (Err Refused) e is none = none (sym is)
values_failed columns text (Err Memory) e is none = tt
