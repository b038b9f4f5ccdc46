use Rattle.ibd_cli.proofs.report.put_status.Goals as goal

pub returns-in-CrossMissing : goal.returns-in-CrossMissing
returns-in-CrossMissing g c = rw c.in-CrossMissing.is c.put_difference.ensures

pub returns-in-CrossExtra : goal.returns-in-CrossExtra
returns-in-CrossExtra g c =
    rw c.in-CrossExtra.is (rw c.from.ensures at c.put_difference-in-CrossExtra.ensures)
