use Rattle.std.proofs.Common.{ℕ, subst, ap, [], ◌++◌}
use Rattle.row_text.specs.Values.{value_text}
use Rattle.page_source.specs.Calls.{Puts}
use Rattle.row_text.specs.Writer.{Writer, before_value}
use Rattle.page_source.proofs.Texts.{put_none, put_more, put_last, puts_failed}
use Rattle.row_text.proofs.write.writer.RowWriter.value.Goals as goal

pub returns-in_err-put_spelled-clause-puts : goal.returns-in_err-put_spelled-clause-puts
returns-in_err-put_spelled-clause-puts g c value spell =
    let s = g.O.ByteSink in
    let front = before_value c.args.self.now.came in
    let text = value_text c.args.kind.now value in
    let comma = subst (λ (n : ℕ). Puts s c.args.sink.now c.put_comma.new.sink (before_value n) c.put_comma.result)
    (ap (λ (w : Writer). w.came) c.self.view_is) c.put_comma.ensures in
    let before = put_more s c.args.sink.now c.args.sink.now c.put_comma.new.sink [] front c.put_comma.result
    c.in_ok-put_comma.field-0
    (put_none s c.args.sink.now) comma c.in_ok-put_comma.was in
    puts_failed s c.args.sink.now c.put_spelled.new.sink (front ++ text) c.put_spelled.result _
    c.from_residual-in_err-put_spelled.result
    (put_last s c.args.sink.now c.put_comma.new.sink c.put_spelled.new.sink front text c.put_spelled.result before
    (c.put_spelled.ensures value spell)) c.in_err-put_spelled.was c.from_residual-in_err-put_spelled.ensures.0
