use Rattle.std.proofs.Common.{subst, sym}
use Rattle.image_carve.specs.Takes.{TakesTold}
use Rattle.image_carve.proofs.Turns.{takes_stop, takes_end}
use Rattle.image_carve.proofs.carve.take.Goals as goal

pub returns-in_err-carve-clause-told : goal.returns-in_err-carve-clause-told
returns-in_err-carve-clause-told g c =
    takes_stop (g.Q.ByteSource.left c.args.image.now) c.args.space (g.F.PageFile.held c.args.file.now) _
    c.in_err-carve.field-0.0 c.from_residual.result c.in_err-carve.ensures.told c.from_residual.ensures.1

pub returns-clause-told : goal.returns-clause-told
returns-clause-told g c =
    subst (TakesTold (g.Q.ByteSource.left c.args.image.now) c.args.space (g.F.PageFile.held c.args.file.now)
    (g.F.PageFile.held c.carve.new.file)) (sym c.ok_or.ensures.value)
    (takes_end (g.Q.ByteSource.left c.args.image.now) c.args.space (g.F.PageFile.held c.args.file.now) _ c.taken.result
    c.in_ok-carve.ensures.told c.taken.ensures)
