use Rattle.std.proofs.Common.{List, Option, ℕ, sym, subst, arith}
use Rattle.image_carve.specs.Carving.{Grows}
use Rattle.image_carve.proofs.Noted.{length_view, notes_marked}
use Rattle.image_carve.proofs.lsns.NewestLsns.note.Goals as goal

pub index_mut-requires : goal.index_mut-requires
index_mut-requires c =
    let marks = c.self.inside.marks in
    let size = length_view c.grow.new.self marks.items c.self.inside.lsns.items c.self.view_is c.self.invariant.0 in
    omega (arith, size, c.in_ok-grow.ensures.size, marks.ok.0)

pub index_mut-requires-2 : goal.index_mut-requires-2
index_mut-requires-2 c =
    let marks = c.self.inside.marks in
    let size = length_view c.grow.new.self marks.items c.self.inside.lsns.items c.self.view_is c.self.invariant.0 in
    omega (arith, size, c.in_ok-grow.ensures.size, c.self.inside.lsns.ok.0, c.self.invariant.0)

pub returns : goal.returns
returns c =
    notes_marked c.args.self.now c.self.inside.marks.items c.self.inside.lsns.items c.args.n c.args.lsn
    c.self.invariant.0
    (subst (λ (new : List (Option ℕ)). Grows c.args.self.now new c.args.n) (sym c.self.view_is) c.in_ok-grow.ensures)
