use Rattle.std.proofs.Common.{◌≡◌, ◌≤◌, ◌+◌, ◌*◌, ℕ, length, sym, ap, ◌∙◌, subst, arith}
use Rattle.page_packer.specs.Packing.{Packing, slots_for}
use Rattle.page_packer.proofs.Fills.{pushed_count}
use Rattle.page_packer.proofs.packer.Packer.top.Goals as goal

pub returns-clause-fits : goal.returns-clause-fits
returns-clause-fits c =
    let few = c.self.invariant.few in
    let room = c.self.invariant.room in
    let fits = c.self.invariant.fits in
    let size : c.self.inside.count ≡ length c.args.self.now.records =
    sym (pushed_count c.self.inside.page c.self.inside.spots.items c.self.inside.count (omega arith))
    ∙ ap (λ (p : Packing). length p.records) c.self.view_is in
    subst (λ (n : ℕ). c.self.inside.top + 2 * slots_for n ≤ 16376) size fits
