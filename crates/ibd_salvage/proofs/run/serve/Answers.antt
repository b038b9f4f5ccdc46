use Rattle.std.proofs.Common.{Err, ap}
use Rattle.command_line.proofs.OneAnswer.{one_answer}
use Rattle.ibd_salvage.proofs.Serving.{serves_stopped, serves_file}
use Rattle.ibd_salvage.proofs.run.serve.Goals as goal

pub returns-in-Ok : goal.returns-in-Ok
returns-in-Ok g c =
    serves_file
    (one_answer c.has_one_schema.ensures.texts c.texts_pass.ensures.pass c.texts_pass.ensures.one_answer)
    (record { file = g.F.PageSource; schema = g.Q.ByteSource; out = g.O.ByteSink; err = g.E.ByteSink }) c.args.form
    c.args.file.now c.save_table.new.file c.args.schema.now c.read_schema.new.source c.args.out.now
    c.save_table.new.out c.args.err.now c.save_table.new.err c.args.steps.now c.save_table.new.steps c.in-Ok.table
    c.save_table.result (record { reads = c.in-Ok.ensures.exact; read = c.in-Ok.ensures.read })
    c.save_table.ensures.told c.save_table.ensures.over

pub returns-in-Err : goal.returns-in-Err
returns-in-Err g c =
    rw c.from.ensures
    (serves_stopped
    (one_answer c.has_one_schema.ensures.texts c.texts_pass.ensures.pass c.texts_pass.ensures.one_answer)
    (record { file = g.F.PageSource; schema = g.Q.ByteSource; out = g.O.ByteSink; err = g.E.ByteSink }) c.args.form
    c.args.file.now c.args.schema.now c.read_schema.new.source c.args.out.now c.args.err.now
    c.args.steps.now c.in-Err.stop
    (record {
      reads = c.in-Err.ensures.exact;
      read = c.in-Err.ensures.read;
      cause = λ is. c.in-Err.ensures.cause (ap Err is);
    }))
