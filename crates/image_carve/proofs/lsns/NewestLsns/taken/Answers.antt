use Rattle.std.proofs.Common.{arith}
use Rattle.image_carve.proofs.Noted.{length_view, numbers_of_tally}
use Rattle.image_carve.proofs.lsns.NewestLsns.taken.Goals as goal

pub returns : goal.returns
returns c =
    let marks = c.self.inside.marks in
    let size = length_view c.args.self.now marks.items c.self.inside.lsns.items c.self.view_is c.self.invariant.0 in
    numbers_of_tally c.args.self.now _ c.tally-pages.ensures c.if-pages-eq0.false
    (omega (arith, size, c.len.ensures, marks.ok.0))
