use Rattle.std.proofs.Common.{arith}
use Rattle.image_carve.proofs.Noted.{noted_some, noted_unset, noted_past}
use Rattle.image_carve.proofs.lsns.NewestLsns.noted.Goals.{else-place-len-via-then-place-len+else-index}
use Rattle.image_carve.proofs.lsns.NewestLsns.noted.Goals.{else-place-len-via-else-place-len}
use Rattle.image_carve.proofs.lsns.NewestLsns.noted.Goals as goal

pub returns-then-index : goal.returns-then-index
returns-then-index c =
    let marks = c.self.inside.marks in
    noted_some c.args.self.now marks.items c.self.inside.lsns.items c.args.n c.index-then-index.result.now
    c.index.result.now c.self.view_is c.self.invariant.0 (omega (arith, c.if-place-len.true, c.len.ensures, marks.ok.0))
    c.index.ensures c.if-index.true c.index-then-index.ensures

pub returns : goal.returns
returns c =
    let marks = c.self.inside.marks in
    let lsns = c.self.inside.lsns in
    elim c.else-place-len.branch [
      | else-place-len-via-then-place-len+else-index w ↦
          noted_unset c.args.self.now marks.items lsns.items c.args.n w.index.result.now c.self.view_is
          c.self.invariant.0 (omega (arith, w.if-place-len.true, c.len.ensures, marks.ok.0)) w.index.ensures
          w.if-index.false
      | else-place-len-via-else-place-len w ↦
          noted_past c.args.self.now marks.items lsns.items c.args.n c.self.view_is c.self.invariant.0
          (omega (arith, w.if-place-len.false, c.len.ensures, marks.ok.0))
    ]
