use Rattle.std.proofs.Common.{◌≡◌, ℕ, List, length, flat_map, sym, ap, ◌∙◌}
use Rattle.page_source.specs.Pages.{be_bytes, with_bytes}
use Rattle.page_packer.specs.Packing.{slots_for}
use Rattle.page_packer.proofs.FinishSteps.{numbers_are, header_put}
use Rattle.page_packer.proofs.packer.Packer.put_header.Goals as goal

pub returns : goal.returns
returns c =
    let packing = c.args.self.now in
    let page = c.args.page.now in
    let long : length page ≡ 16384 = ap length (sym c.bytes.ensures.same) ∙ c.bytes.ensures.size in
    let slots : c.slots_for-slots.result ≡ slots_for (length packing.records) =
    c.slots_for-slots.ensures.value ∙ ap (λ (n : ℕ). slots_for n) c.count.ensures.value in
    let numbers = numbers_are packing c.slots_for-slots.result c.top-top.result c.count-count.result
    c.level.result slots
    c.top-top.ensures.value c.count-count.ensures.value c.level.ensures in
    header_put packing page c.put_numbers.new.page c.write_be.new.page c.put_heads.new.page c.args.index_id c.args.heads
    long
    (c.put_numbers.ensures.page ∙ ap (λ (xs : List ℕ). with_bytes page 38 (flat_map (be_bytes 2) xs)) numbers)
    c.write_be.ensures.others c.put_heads.ensures
