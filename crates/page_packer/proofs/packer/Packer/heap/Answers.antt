use Rattle.std.proofs.Common.{◌≡◌, List, ℕ, length, slice_range, sym, ap, ◌∙◌, arith}
use Rattle.std.proofs.lemmas.List.Edits.{length-between}
use Rattle.page_packer.specs.Packing.{Packing, total_size}
use Rattle.page_packer.specs.Filling.{unlinked_bytes}
use Rattle.page_packer.proofs.Fills.{heap_is}
use Rattle.page_packer.proofs.packer.Packer.heap.Goals as goal

pub returns-clause-value : goal.returns-clause-value
returns-clause-value c =
    let page = c.self.inside.page in
    let long : length page ≡ 16384 = ap length (sym c.bytes.ensures.same) ∙ c.bytes.ensures.size in
    ap (λ (xs : List ℕ). slice_range xs 120 c.self.inside.top) c.bytes.ensures.same
    ∙ heap_is page c.self.inside.spots.items c.self.inside.count c.self.inside.top long c.self.invariant
    ∙ ap (λ (p : Packing). unlinked_bytes p.records) c.self.view_is

pub returns-clause-size : goal.returns-clause-size
returns-clause-size c =
    let top : ℕ = c.self.inside.top in
    let top_is = c.self.invariant.top_is in
    let fits = c.self.invariant.fits in
    let size = length-between c.bytes.result.now 120 top (omega (arith, c.bytes.ensures.size, fits)) in
    omega (arith, size, top_is, ap (λ (p : Packing). total_size p.records) c.self.view_is)
