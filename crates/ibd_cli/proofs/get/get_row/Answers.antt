use Rattle.ibd_cli.proofs.GetEnds.{get_done, get_stopped}
use Rattle.ibd_cli.proofs.get.get_row.Goals as goal

pub returns-in-Ok : goal.returns-in-Ok
returns-in-Ok g c =
    get_done g.F.PageSource g.O.ByteSink c.args.key.now c.args.file.now c.get.new.source c.args.table.now
    c.args.out.now c.get.new.sink c.args.steps.now c.get.new.steps c.in-Ok.field-0
    (record {
      told = c.in-Ok.ensures.told;
      some = c.in-Ok.ensures.some;
      refused = c.in-Ok.ensures.refused;
      first = c.in-Ok.ensures.first;
      over = c.in-Ok.ensures.over;
      few = c.in-Ok.ensures.few;
      cost = c.in-Ok.ensures.steps;
      fetches = c.in-Ok.ensures.fetches;
    })

pub returns-in-Err : goal.returns-in-Err
returns-in-Err g c =
    rw c.from.ensures
    (get_stopped g.F.PageSource g.O.ByteSink c.args.key.now c.args.file.now c.get.new.source c.args.table.now
    c.args.out.now c.get.new.sink c.args.steps.now c.get.new.steps c.in-Err.stop
    (record {
      told = c.in-Err.ensures.told;
      some = tt;
      refused = c.in-Err.ensures.refused;
      first = c.in-Err.ensures.first;
      over = c.in-Err.ensures.over;
      few = c.in-Err.ensures.few;
      cost = c.in-Err.ensures.steps;
      fetches = c.in-Err.ensures.fetches;
    }))
