use Rattle.std.proofs.Common.{cond, eqb, get_or, replicate, sym, subst, w8}
use Rattle.std.proofs.lemmas.Simd.{tops_compared}
use Rattle.std.specs.Simd.Lanes.{sel_l}
use Rattle.row_text.specs.calls.Lanes.{HasLanes}
use Rattle.row_text.proofs.Vectors.{marked_lanes}
use Rattle.row_text.proofs.read.lanes.marked.Goals as goal

pub returns : goal.returns
returns c =
    let a = c.args.lanes in
    let b = c.args.byte in
    let z = c.args.found in
    subst (λ ms. HasLanes (sel_l ms (replicate 16 255) z) (λ k. cond (eqb (get_or a k 0) b) 255 (get_or z k 0)))
    (sym (tops_compared w8 eqb a (replicate 16 b))) (marked_lanes a z b c.fits-lanes.0 c.fits-found.0)
