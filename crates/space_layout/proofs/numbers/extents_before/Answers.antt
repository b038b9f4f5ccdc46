use Rattle.std.proofs.Common.{sym, arith}
use Rattle.space_layout.proofs.PageNumbers.{extents_none, extents_more}
use Rattle.space_layout.proofs.numbers.extents_before.Goals as goal

pub loop-i-init : goal.loop-i-init
loop-i-init c = (sym (extents_none c.args.sizes.now), omega arith)

pub loop-i-preserved : goal.loop-i-preserved
loop-i-preserved c =
    let more = extents_more c.args.sizes.now c.loop-i.i (omega arith) in
    (omega arith, omega arith)
