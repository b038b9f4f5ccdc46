use Rattle.std.proofs.Common.{◌≡◌, ◌+◌, ◌*◌, ◌-◌, length, arith}
use Rattle.fil_frame.proofs.Shortened.{IsCleared-more, IsLeft-more, shortened}
use Rattle.fil_frame.proofs.body.shorten.Goals as goal

pub loop-i-preserved : goal.loop-i-preserved
loop-i-preserved g c =
    IsCleared-more c.args.body.now c.loop-i.quotient g.row.S c.loop-i.i (c.loop-i.i + g.row.R) c.remaining.result
    (omega arith) (omega arith) (omega arith) c.remaining.ensures c.loop-i.invariant

pub loop-i-2-preserved : goal.loop-i-2-preserved
loop-i-2-preserved g c =
    IsLeft-more c.args.body.now c.loop-i.quotient c.loop-i-2.rest g.row.S
    (length c.args.body.now - g.row.R) c.loop-i-2.i c.remaining-in-loop-i-2.result
    (omega arith) c.remaining-in-loop-i-2.ensures c.loop-i-2.invariant

pub returns : goal.returns
returns g c =
    let count = length c.args.body.now - g.row.R in
    let all : c.loop-i.i ≡ count = omega arith in
    let all_left : c.loop-i-2.i ≡ 209 * g.row.S = omega arith in
    shortened c.args.body.now c.loop-i.quotient c.loop-i-2.rest g.row.S count c.requires.cancel (omega arith)
    (rw all at c.loop-i.invariant) (rw all_left at c.loop-i-2.invariant)
