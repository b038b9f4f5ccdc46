use Rattle.std.proofs.Common.{◌≡◌, ◌∙◌, ℕ, List, Option, ap, ◌+◌, arith}
use Rattle.fil_frame.specs.Kinds.{index_kind}
use Rattle.fil_frame.specs.Frame.{sealed}
use Rattle.page_packer.specs.declared.packer.Heads.{Heads}
use Rattle.page_packer.specs.Packing.{packed_page}
use Rattle.space_builder.specs.layout.TreeSpot.{page_at_spot}
use Rattle.space_builder.proofs.tree_pages.put_tree_page.Goals as goal

pub returns-clause-page : goal.returns-clause-page
unfolding page_at_spot
returns-clause-page c =
    let index : c.from.result ≡ c.args.spot.index = omega arith in
    c.seal.ensures.exact
    ∙ ap (λ (p : List ℕ). sealed p c.args.spot.number 1 1 index_kind)
    (c.finish.ensures.page
    ∙ ap (λ (n : ℕ). packed_page c.args.packer.now c.args.spot.prev c.args.spot.next (n + 1) c.heads_if-heads.result)
    index
    ∙ ap (λ (heads : Option Heads). packed_page c.args.packer.now c.args.spot.prev c.args.spot.next
    (c.args.spot.index + 1) heads) c.heads_if-heads.ensures)
