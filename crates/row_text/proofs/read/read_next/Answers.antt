use Rattle.std.proofs.Common.{◌≡◌, ℕ, List, ◌+◌, ◌++◌, length, take, drop, ◌-◌, Err, refl, sym, subst}
use Rattle.std.proofs.lemmas.List.{take_rest}
use Rattle.column_values.specs.declared.value.Value.{Value}
use Rattle.row_text.specs.declared.row.RowError.{RowError}
use Rattle.row_text.specs.declared.row.RowError.TheVariants.{Refused}
use Rattle.row_text.specs.Writer.{before_value}
use Rattle.row_text.specs.calls.Values.{BeginsColumn, FindsColumn}
use Rattle.row_text.specs.calls.Rows.{HasRead}
use Rattle.row_text.proofs.Errors.{next_failed}
use Rattle.row_text.proofs.Reading.{next_found, next_none, next_unled}
use Rattle.row_text.proofs.read.read_next.Goals as goal

pub returns-in_default-clause-next : goal.returns-in_default-clause-next
returns-in_default-clause-next c = λ columns is read.
    next_unled columns c.args.column.now c.args.text.now c.args.row.now c.args.at is read
    (λ rest e. c.in_default.ensures.none refl rest (rw c.values-came.ensures e))

pub returns-in_err-value-clause-next : goal.returns-in_err-value-clause-next
returns-in_err-value-clause-next c = λ columns is read.
    let text = c.args.text.now in
    let place = c.in-Some.place in
    let led : drop c.args.at text ≡ before_value (length c.args.row.now) ++ drop place text =
    rw c.values-came.ensures at (c.in-Some.ensures.found.1) in
    next_failed columns text c.args.row.now c.from_residual.result c.in_err-value.field-0.0 c.from_residual.ensures.1
    (λ refused. next_none columns c.args.column.now text c.args.row.now c.args.at place is read led
    (subst (λ (t : List ℕ). FindsColumn c.args.column.now t (Err Refused)) (take_rest text place)
    (subst (λ (e : RowError). FindsColumn c.args.column.now
    (take (length text - place) (drop place text)) (Err e)) refused c.in_err-value.ensures.found)))

pub returns-clause-next : goal.returns-clause-next
returns-clause-next c = λ columns is read.
    let text = c.args.text.now in
    let place = c.in-Some.place in
    let led : drop c.args.at text ≡ before_value (length c.args.row.now) ++ drop place text =
    rw c.values-came.ensures at (c.in-Some.ensures.found.1) in
    let begins : BeginsColumn c.args.column.now c.in_ok-value.value (drop place text)
    (drop c.in_ok-value.size (drop place text)) =
    subst (λ (t : List ℕ). BeginsColumn c.args.column.now c.in_ok-value.value t
    (drop c.in_ok-value.size t)) (take_rest text place) c.in_ok-value.ensures.found in
    subst (λ (values : List Value). HasRead columns text values (place + c.in_ok-value.size))
    (sym c.in_ok-push.ensures.ok)
    (next_found columns c.args.column.now text c.args.row.now c.args.at place c.in_ok-value.size c.in_ok-value.value
    c.requires.known is read led begins)
