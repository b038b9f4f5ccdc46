use Rattle.std.proofs.Common.{◌≡◌, ℕ, length, sym, ap, ◌∙◌}
use Rattle.index_page.specs.Header.{infimum}
use Rattle.page_packer.specs.Packing.{next_between, owned_by_supremum}
use Rattle.page_packer.proofs.FinishSteps.{ends_put}
use Rattle.page_packer.proofs.packer.Packer.put_ends.Goals as goal

pub returns : goal.returns
returns c =
    let records = c.args.self.now.records in
    let page = c.args.page.now in
    let long : length page ≡ 16384 = ap length (sym c.bytes.ensures.same) ∙ c.bytes.ensures.size in
    ends_put records page c.put_bytes.new.self c.write_be.new.page c.put_bytes-2.new.self c.put_bytes-3.new.self
    c.put_bytes-4.new.self c.next_between-next.result c.owned_by_supremum-owned.result long
    (c.next_between-next.ensures.value ∙ ap (λ (n : ℕ). next_between infimum n) c.origin_at.ensures.value)
    (c.owned_by_supremum-owned.ensures ∙ ap (λ (n : ℕ). owned_by_supremum n) c.count.ensures.value)
    c.put_bytes.ensures c.write_be.ensures.others c.put_bytes-2.ensures c.put_bytes-3.ensures c.put_bytes-4.ensures
