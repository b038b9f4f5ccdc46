use Rattle.std.proofs.Common.{◌+◌, take, subst, sym, ◌∙◌, arith}
use Rattle.image_carve.specs.Carved.{known}
use Rattle.image_carve.specs.Carving.{IsTally}
use Rattle.image_carve.proofs.Noted.{length_view, tally_some, tally_past, tally_all}
use Rattle.image_carve.proofs.lsns.NewestLsns.tally.Goals as goal

pub loop-n-preserved-in_default : goal.loop-n-preserved-in_default
loop-n-preserved-in_default c =
    let marks = c.self.inside.marks in
    let size = length_view c.args.self.now marks.items c.self.inside.lsns.items c.self.view_is c.self.invariant.0 in
    record {
      tally = tally_past c.args.self.now c.loop-n.n c.loop-n.pages c.loop-n.newest
          (omega (arith, size, c.loop-n-test.true, c.len-n-end.ensures, marks.ok.0))
          (sym c.noted.ensures ∙ c.in_default.is) c.loop-n.invariant.tally;
      few = omega (arith, c.loop-n.invariant.few);
    }

pub loop-n-preserved : goal.loop-n-preserved
loop-n-preserved c =
    let marks = c.self.inside.marks in
    let size = length_view c.args.self.now marks.items c.self.inside.lsns.items c.self.view_is c.self.invariant.0 in
    record {
      tally = subst (IsTally (known (take (c.loop-n.n + 1) c.args.self.now)) (c.loop-n.pages + 1))
          (sym c.max-newest.ensures)
          (tally_some c.args.self.now c.loop-n.n c.in-Some.lsn c.loop-n.pages c.loop-n.newest
          (omega (arith, size, c.loop-n-test.true, c.len-n-end.ensures, marks.ok.0))
          (sym c.noted.ensures ∙ c.in-Some.is) c.loop-n.invariant.tally);
      few = omega (arith, c.loop-n.invariant.few);
    }

pub returns : goal.returns
returns c =
    let marks = c.self.inside.marks in
    let size = length_view c.args.self.now marks.items c.self.inside.lsns.items c.self.view_is c.self.invariant.0 in
    tally_all c.args.self.now c.loop-n.n c.loop-n.pages c.loop-n.newest
    (omega (arith, size, c.loop-n-test.false, c.len-n-end.ensures, marks.ok.0)) c.loop-n.invariant.tally
