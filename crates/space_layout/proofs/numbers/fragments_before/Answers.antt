use Rattle.std.proofs.Common.{sym, arith}
use Rattle.space_layout.proofs.PageNumbers.{fragments_none, fragments_more}
use Rattle.space_layout.proofs.numbers.fragments_before.Goals as goal

pub loop-i-init : goal.loop-i-init
loop-i-init c = (sym (fragments_none c.args.sizes.now), omega arith)

pub loop-i-preserved : goal.loop-i-preserved
loop-i-preserved c =
    let more = fragments_more c.args.sizes.now c.loop-i.i (omega arith) in
    (omega arith, omega arith)
