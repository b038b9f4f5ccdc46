use Rattle.std.proofs.Common.{ℕ, List, [], ◌∷◌, ◌++◌, subst, sym}
use Rattle.page_source.specs.Calls.{Puts}
use Rattle.row_text.specs.Values.{escaped_text}
use Rattle.page_source.proofs.Texts.{HasPut, put_none, put_more, put_last, put_cut}
use Rattle.row_text.proofs.Escapes.{escaped_plain}
use Rattle.row_text.proofs.write.texts.put_quoted.Goals as goal

pub returns-in_err-put_escaped : goal.returns-in_err-put_escaped
returns-in_err-put_escaped g c =
    let s = g.O.ByteSink in
    let first = c.put.ensures in
    let opened : HasPut s c.args.sink.now c.put.new.self (39 ∷ []) =
    put_more s c.args.sink.now c.args.sink.now c.put.new.self [] (39 ∷ []) c.put.result c.in_ok-put.field-0
    (put_none s c.args.sink.now)
    (record { ok = first.ok; failed = first.failed; cause = first.cause }) c.in_ok-put.was in
    put_cut s c.args.sink.now c.put.new.self c.put_escaped.new.sink (39 ∷ []) (escaped_text c.args.text.now) (39 ∷ [])
    c.put_escaped.result _ c.from_residual-in_err-put_escaped.result opened c.put_escaped.ensures
    c.in_err-put_escaped.was c.from_residual-in_err-put_escaped.ensures.0

pub returns : goal.returns
returns g c =
    let s = g.O.ByteSink in
    let first = c.put.ensures in
    let opened : HasPut s c.args.sink.now c.put.new.self (39 ∷ []) =
    put_more s c.args.sink.now c.args.sink.now c.put.new.self [] (39 ∷ []) c.put.result c.in_ok-put.field-0
    (put_none s c.args.sink.now)
    (record { ok = first.ok; failed = first.failed; cause = first.cause }) c.in_ok-put.was in
    let text = put_more s c.args.sink.now c.put.new.self c.put_escaped.new.sink (39 ∷ []) (escaped_text c.args.text.now)
    c.put_escaped.result c.in_ok-put_escaped.field-0 opened c.put_escaped.ensures c.in_ok-put_escaped.was in
    let last = c.put-2.ensures in
    put_last s c.args.sink.now c.put_escaped.new.sink c.put-2.new.self (39 ∷ escaped_text c.args.text.now) (39 ∷ [])
    c.put-2.result text
    (record { ok = last.ok; failed = last.failed; cause = last.cause })

pub returns-then-is_short_plain : goal.returns-then-is_short_plain
returns-then-is_short_plain g c =
    subst (λ (t : List ℕ). Puts g.O.ByteSink c.args.sink.now c.put_enclosed.new.sink
    (39 ∷ t ++ 39 ∷ []) c.put_enclosed.result)
    (sym (escaped_plain c.args.text.now (c.is_short_plain.ensures c.if-is_short_plain.true))) c.put_enclosed.ensures
