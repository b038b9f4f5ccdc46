use Rattle.ibd_cli.proofs.CheckEnds.{check_stopped, check_done, check_unput}
use Rattle.ibd_cli.proofs.check.check_file.Goals as goal

pub returns-in-Ok-put_checked : goal.returns-in-Ok-put_checked
returns-in-Ok-put_checked g c =
    λ key.
    check_done key g.F.PageSource g.O.ByteSink c.args.file.now c.check.new.source c.args.table.now c.args.out.now _
    c.args.steps.now c.check.new.steps c.in-Ok.ensures.steps c.in-Ok.ensures.fetches c.in-Ok.checked
    c.in-Ok.ensures.exact c.in-Ok.ensures.valid c.in-Ok.ensures.checked c.in-Ok.ensures.over
    c.in-Ok-put_checked.ensures.ok

pub returns-in-Err-put_checked : goal.returns-in-Err-put_checked
returns-in-Err-put_checked g c =
    λ key.
    check_unput key g.F.PageSource g.O.ByteSink c.args.file.now c.check.new.source c.args.table.now c.args.out.now _
    c.args.steps.now c.check.new.steps c.in-Ok.ensures.steps c.in-Ok.ensures.fetches c.in-Ok.checked
    c.in-Ok.ensures.exact c.in-Ok.ensures.valid c.in-Ok.ensures.checked c.in-Ok.ensures.over
    c.in-Err-put_checked.ensures.failed c.in-Err-put_checked.ensures.cause.failed

pub returns-in-Err : goal.returns-in-Err
returns-in-Err g c =
    λ key. rw c.from.ensures
    (check_stopped key g.F.PageSource g.O.ByteSink c.args.file.now c.check.new.source c.args.table.now c.args.out.now
    c.args.out.now c.args.steps.now c.check.new.steps c.in-Err.ensures.steps c.in-Err.ensures.fetches c.in-Err.stop
    c.in-Err.ensures.exact c.in-Err.ensures.over)
