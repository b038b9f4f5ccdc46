use Rattle.row_text.specs.Writer.{line_open}
use Rattle.page_source.proofs.Texts.{puts_done, puts_failed}
use Rattle.row_text.proofs.write.writer.RowWriter.begin.Goals as goal

pub returns-in_err-put_open-clause-puts : goal.returns-in_err-put_open-clause-puts
returns-in_err-put_open-clause-puts g c =
    puts_failed g.O.ByteSink c.args.sink.now c.put_open.new.sink (line_open c.args.schema.now) c.put_open.result _
    c.from_residual.result
    c.put_open.ensures c.in_err-put_open.was c.from_residual.ensures.0

pub returns-clause-puts : goal.returns-clause-puts
returns-clause-puts g c =
    puts_done g.O.ByteSink c.args.sink.now c.put_open.new.sink (line_open c.args.schema.now) c.put_open.result
    c.in_ok-put_open.field-0 _
    c.put_open.ensures c.in_ok-put_open.was
