use Rattle.std.proofs.Common.{◌≡◌, Option, length, refl, sym, ap, ◌∙◌, arith}
use Rattle.page_source.specs.Pages.{with_bytes}
use Rattle.page_packer.specs.declared.packer.Heads.{Heads}
use Rattle.page_packer.specs.Packing.{segment_header, head_bytes}
use Rattle.page_packer.proofs.FinishSteps.{two_put}
use Rattle.page_packer.proofs.parts.put_heads.Goals as goal

pub returns-in-Some : goal.returns-in-Some
returns-in-Some c =
    let heads = c.in-Some.heads in
    let page = c.args.page.now in
    let long : length page ≡ 16384 = ap length (sym c.bytes.ensures.same) ∙ c.bytes.ensures.size in
    two_put page c.put_segment.new.page c.put_segment-in-Some.new.page
    (segment_header heads.space heads.page heads.leaf)
    (segment_header heads.space heads.page heads.top) 74 84 c.put_segment.ensures c.put_segment-in-Some.ensures refl
    (omega arith)
    ∙ ap (λ (o : Option Heads). with_bytes page 74 (head_bytes o)) (sym c.in-Some.is)
