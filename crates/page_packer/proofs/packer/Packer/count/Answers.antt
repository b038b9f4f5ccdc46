use Rattle.std.proofs.Common.{◌≡◌, length, sym, ap, ◌∙◌, subst, arith}
use Rattle.page_packer.specs.Packing.{Packing, AreWhole}
use Rattle.page_packer.proofs.Fills.{pushed_count, whole_filled}
use Rattle.page_packer.proofs.packer.Packer.count.Goals as goal

pub returns-clause-value : goal.returns-clause-value
returns-clause-value c =
    let few = c.self.invariant.few in
    let room = c.self.invariant.room in
    let fits = c.self.invariant.fits in
    sym (pushed_count c.self.inside.page c.self.inside.spots.items c.self.inside.count (omega arith))
    ∙ ap (λ (p : Packing). length p.records) c.self.view_is

pub returns-clause-whole : goal.returns-clause-whole
returns-clause-whole c =
    let long : length c.self.inside.page ≡ 16384 = ap length (sym c.bytes.ensures.same) ∙ c.bytes.ensures.size in
    subst (λ (p : Packing). AreWhole p.records) c.self.view_is
    (whole_filled c.self.inside.page c.self.inside.spots.items c.self.inside.count c.self.inside.top long
    c.self.invariant)
