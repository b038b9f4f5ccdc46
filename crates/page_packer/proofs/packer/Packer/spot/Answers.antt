use Rattle.std.proofs.Common.{◌≡◌, ◌<◌, length, sym, ap, ◌∙◌, subst, arith}
use Rattle.std.proofs.lemmas.List.{get_or_read}
use Rattle.page_packer.specs.declared.packer.Spot.{Spot}
use Rattle.page_packer.specs.Packing.{Packing}
use Rattle.page_packer.specs.Filling.{HasSpot, spot_at}
use Rattle.page_packer.proofs.Fills.{pushed_count, has_spot}
use Rattle.page_packer.proofs.packer.Packer.spot.Goals as goal

pub index-requires : goal.index-requires
index-requires c =
    let few = c.self.invariant.few in
    let room = c.self.invariant.room in
    let fits = c.self.invariant.fits in
    let size : c.self.inside.count ≡ length c.args.self.now.records =
    sym (pushed_count c.self.inside.page c.self.inside.spots.items c.self.inside.count (omega arith))
    ∙ ap (λ (p : Packing). length p.records) c.self.view_is in
    omega (arith, c.self.inside.spots.ok.0)

pub returns : goal.returns
returns c =
    let page = c.self.inside.page in
    let spots = c.self.inside.spots.items in
    let count = c.self.inside.count in
    let k = c.args.k in
    let few = c.self.invariant.few in
    let room = c.self.invariant.room in
    let fits = c.self.invariant.fits in
    let long : length page ≡ 16384 = ap length (sym c.bytes.ensures.same) ∙ c.bytes.ensures.size in
    let size : count ≡ length c.args.self.now.records =
    sym (pushed_count page spots count (omega arith)) ∙ ap (λ (p : Packing). length p.records) c.self.view_is in
    let below : k < count = omega arith in
    let same : c.index.result.now ≡ spot_at spots k =
    get_or_read spots k c.index.result.now (omega arith) c.index.ensures (record { start = 0; origin = 0; end = 0 }) in
    subst (λ (s : Spot). HasSpot c.args.self.now.records k s) (sym same)
    (subst (λ (p : Packing). HasSpot p.records k (spot_at spots k)) c.self.view_is
    (has_spot page spots count c.self.inside.top k long c.self.invariant below))
