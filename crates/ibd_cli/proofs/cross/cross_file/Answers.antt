use Rattle.ibd_cli.proofs.CrossEnds.{cross_stopped, cross_done, cross_unput}
use Rattle.ibd_cli.proofs.cross.cross_file.Goals as goal

pub returns-in-Ok-put_crossed : goal.returns-in-Ok-put_crossed
returns-in-Ok-put_crossed g c =
    λ key.
    cross_done c.checks_are_validity.ensures key g.F.PageSource g.O.ByteSink c.args.file.now c.cross.new.source
    c.args.table.now c.args.out.now _ c.args.steps.now c.cross.new.steps c.in-Ok.crossed c.in-Ok.ensures.exact
    c.in-Ok.ensures.over c.in-Ok.ensures.steps c.in-Ok.ensures.fetches c.in-Ok-put_crossed.ensures.ok

pub returns-in-Err-put_crossed : goal.returns-in-Err-put_crossed
returns-in-Err-put_crossed g c =
    λ key.
    cross_unput c.checks_are_validity.ensures key g.F.PageSource g.O.ByteSink c.args.file.now c.cross.new.source
    c.args.table.now c.args.out.now _ c.args.steps.now c.cross.new.steps c.in-Ok.crossed c.in-Ok.ensures.exact
    c.in-Ok.ensures.over c.in-Ok.ensures.steps c.in-Ok.ensures.fetches c.in-Err-put_crossed.ensures.failed
    c.in-Err-put_crossed.ensures.cause.failed

pub returns-in-Err : goal.returns-in-Err
returns-in-Err g c =
    λ key. rw c.from.ensures
    (cross_stopped key g.F.PageSource g.O.ByteSink c.args.file.now c.cross.new.source c.args.table.now c.args.out.now
    c.args.steps.now c.cross.new.steps c.in-Err.stop c.in-Err.ensures.exact c.in-Err.ensures.over
    c.in-Err.ensures.steps c.in-Err.ensures.fetches)
