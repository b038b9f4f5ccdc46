use Rattle.std.proofs.Common.{ℕ, List, ap, subst, sym, ◌∙◌}
use Rattle.column_values.specs.declared.value.Value.{Value}
use Rattle.page_source.specs.Calls.{Puts}
use Rattle.row_text.specs.Values.{quoted, moment_text, timestamp_text, value_text}
use Rattle.row_text.proofs.write.values.put_value.Goals as goal

pub returns-in-Date : goal.returns-in-Date
returns-in-Date g c =
    subst (λ (v : Value). Puts g.O.ByteSink c.args.sink.now c.put_date.new.sink (value_text c.args.kind.now v)
    c.put_date.result) (sym c.in-Date.is) c.put_date.ensures

pub returns-in-DateTime : goal.returns-in-DateTime
returns-in-DateTime g c =
    let m = c.in-DateTime in
    subst (λ (v : Value). Puts g.O.ByteSink c.args.sink.now c.put_moment.new.sink (value_text c.args.kind.now v)
    c.put_moment.result) (sym m.is)
    (subst (λ (f : ℕ). Puts g.O.ByteSink c.args.sink.now c.put_moment.new.sink
    (quoted (moment_text f m.year m.month m.day m.hour m.minute m.second m.micro)) c.put_moment.result)
    c.fraction_digits.ensures.value c.put_moment.ensures)

pub returns-in-Timestamp : goal.returns-in-Timestamp
returns-in-Timestamp g c =
    let m = c.in-Timestamp in
    let put = c.put_moment-in-Timestamp in
    let digits = c.fraction_digits-in-Timestamp in
    subst (λ (v : Value). Puts g.O.ByteSink c.args.sink.now put.new.sink (value_text c.args.kind.now v) put.result)
    (sym m.is)
    (subst (λ (text : List ℕ). Puts g.O.ByteSink c.args.sink.now put.new.sink (quoted text) put.result)
    (c.moment_of.ensures digits.result ∙ ap (λ (f : ℕ). timestamp_text f m.seconds m.micro) digits.ensures.value)
    put.ensures)
