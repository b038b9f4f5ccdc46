use Rattle.std.proofs.Common.{ℕ, subst, ap, [], ◌++◌, codes}
use Rattle.page_source.specs.Calls.{Puts}
use Rattle.row_text.specs.Writer.{Writer, before_value}
use Rattle.page_source.proofs.Texts.{put_none, put_more, put_last, puts_failed}
use Rattle.row_text.proofs.write.writer.RowWriter.null.Goals as goal

pub returns-in_err-put-clause-puts : goal.returns-in_err-put-clause-puts
returns-in_err-put-clause-puts g c =
    let s = g.O.ByteSink in
    let front = before_value c.args.self.now.came in
    let comma = subst (λ (n : ℕ). Puts s c.args.sink.now c.put_comma.new.sink (before_value n) c.put_comma.result)
    (ap (λ (w : Writer). w.came) c.self.view_is) c.put_comma.ensures in
    let before = put_more s c.args.sink.now c.args.sink.now c.put_comma.new.sink [] front c.put_comma.result
    c.in_ok-put_comma.field-0
    (put_none s c.args.sink.now) comma c.in_ok-put_comma.was in
    let last = c.put.ensures in
    puts_failed s c.args.sink.now c.put.new.self (front ++ codes "NULL") c.put.result _
    c.from_residual-in_err-put.result
    (put_last s c.args.sink.now c.put_comma.new.sink c.put.new.self front (codes "NULL") c.put.result before
    (record { ok = last.ok; failed = last.failed; cause = last.cause }))
    c.in_err-put.was c.from_residual-in_err-put.ensures.0
