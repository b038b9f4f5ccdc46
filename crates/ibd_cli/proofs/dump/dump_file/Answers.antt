use Rattle.ibd_cli.proofs.DumpEnds.{dump_done, dump_stopped}
use Rattle.ibd_cli.proofs.dump.dump_file.Goals as goal

pub returns-in-Ok : goal.returns-in-Ok
returns-in-Ok g c =
    λ key.
    dump_done key g.F.PageSource g.O.ByteSink c.args.file.now c.dump.new.source c.args.table.now c.args.out.now
    c.dump.new.sink c.args.steps.now c.dump.new.steps c.in-Ok.field-0 c.in-Ok.ensures.told c.in-Ok.ensures.over
    c.in-Ok.ensures.lines c.in-Ok.ensures.steps c.in-Ok.ensures.fetches c.in-Ok.ensures.again

pub returns-in-Err : goal.returns-in-Err
returns-in-Err g c =
    λ key. rw c.from.ensures
    (dump_stopped c.checks_are_validity.ensures key g.F.PageSource g.O.ByteSink c.args.file.now c.dump.new.source
    c.args.table.now c.args.out.now c.dump.new.sink c.args.steps.now c.dump.new.steps c.in-Err.stop
    c.in-Err.ensures.told c.in-Err.ensures.over c.in-Err.ensures.steps c.in-Err.ensures.fetches
    c.in-Err.ensures.again)
