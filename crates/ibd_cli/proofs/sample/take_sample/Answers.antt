use Rattle.ibd_cli.proofs.SampleEnds.{sample_done, sample_unput, sample_stopped}
use Rattle.ibd_cli.proofs.sample.take_sample.Goals as goal

pub returns-in-Ok-put_sample : goal.returns-in-Ok-put_sample
returns-in-Ok-put_sample g c =
    sample_done _ g.O.ByteSink _ _ c.in-Ok.sample c.in-Ok.ensures c.in-Ok-put_sample.ensures.ok

pub returns-in-Err-put_sample : goal.returns-in-Err-put_sample
returns-in-Err-put_sample g c =
    sample_unput _ g.O.ByteSink _ _ c.in-Ok.sample c.in-Ok.ensures c.in-Err-put_sample.ensures.failed
    c.in-Err-put_sample.ensures.cause.failed

pub returns-in-Err : goal.returns-in-Err
returns-in-Err g c = rw c.from.ensures (sample_stopped _ g.O.ByteSink _ c.in-Err.stop c.in-Err.ensures)
