use Rattle.std.proofs.Common.{Err, ap}
use Rattle.command_line.proofs.OneAnswer.{one_answer}
use Rattle.ibd_cli.proofs.Serving.{serves_stopped, serves_file}
use Rattle.ibd_cli.proofs.run.serve.Goals as goal

pub returns-in-Ok : goal.returns-in-Ok
returns-in-Ok g c =
    serves_file
    (one_answer c.has_one_schema.ensures.texts c.texts_pass.ensures.pass c.texts_pass.ensures.one_answer)
    (record {
      first = c.first_has_one_answer.ensures;
      row = c.look_up_has_one_answer.ensures;
      spelled = c.text_spells_one_key.ensures;
      valid = c.checks_are_validity.ensures;
      differ = c.has_one_difference.ensures;
    })
    g.F.PageSource g.Q.ByteSource g.O.ByteSink c.args.task c.args.key.now c.args.file.now
    c.serve_table.new.file c.args.schema.now c.read_schema.new.source c.args.out.now c.serve_table.new.out
    c.args.steps.now c.serve_table.new.steps c.in-Ok.table c.serve_table.result
    (record { reads = c.in-Ok.ensures.exact; read = c.in-Ok.ensures.read }) c.serve_table.ensures

pub returns-in-Err : goal.returns-in-Err
returns-in-Err g c =
    rw c.from.ensures
    (serves_stopped
    (one_answer c.has_one_schema.ensures.texts c.texts_pass.ensures.pass c.texts_pass.ensures.one_answer)
    g.F.PageSource g.Q.ByteSource g.O.ByteSink c.args.task c.args.key.now c.args.file.now c.args.schema.now
    c.read_schema.new.source c.args.out.now c.args.steps.now c.in-Err.stop
    (record {
      reads = c.in-Err.ensures.exact;
      read = c.in-Err.ensures.read;
      cause = λ is. c.in-Err.ensures.cause (ap Err is);
    }))
