use Rattle.std.proofs.Common.{arith}
use Rattle.row_store.proofs.RowsIn.{marked_more}
use Rattle.row_store.proofs.marks.are_marked.Goals as goal

pub loop-i-preserved : goal.loop-i-preserved
loop-i-preserved c =
    marked_more c.args.marks.now c.args.fields.now c.args.first c.loop-i.i _ c.spot.result c.loop-i-test.true
    (omega (arith, c.if-first-marks.false, c.if-marks-first.false)) c.loop-i.invariant c.spot.ensures.value
    c.if-ne.ensures
