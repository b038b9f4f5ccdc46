use Rattle.std.proofs.Common.{◌≡◌, ◌+◌, ℕ, length, sym, ap, ◌∙◌, arith}
use Rattle.page_source.specs.Pages.{be_bytes, with_bytes}
use Rattle.page_packer.proofs.FinishSteps.{segment_put}
use Rattle.page_packer.proofs.parts.put_segment.Goals as goal

pub returns : goal.returns
returns c =
    let long : length c.args.page.now ≡ 16384 = ap length (sym c.bytes.ensures.same) ∙ c.bytes.ensures.size in
    segment_put c.args.page.now c.write_be.new.page c.write_be-2.new.page c.write_be-3.new.page c.args.at c.args.space
    c.args.number c.args.offset (omega arith)
    (c.write_be.ensures.others ∙ ap (λ (n : ℕ). with_bytes c.args.page.now c.args.at (be_bytes 4 n)) c.from.ensures)
    (c.write_be-2.ensures.others
    ∙ ap (λ (n : ℕ). with_bytes c.write_be.new.page (c.args.at + 4) (be_bytes 4 n)) c.from-2.ensures)
    (c.write_be-3.ensures.others
    ∙ ap (λ (n : ℕ). with_bytes c.write_be-2.new.page (c.args.at + 8) (be_bytes 2 n)) c.from-3.ensures)
