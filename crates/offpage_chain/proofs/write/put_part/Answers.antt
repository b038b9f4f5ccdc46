use Rattle.std.proofs.Common.{◌∙◌, ap, ℕ, List, length}
use Rattle.std.proofs.lemmas.List.{length-replicate}
use Rattle.page_source.specs.Pages.{be_bytes, with_bytes}
use Rattle.offpage_chain.specs.ValuePage.{part_body}
use Rattle.offpage_chain.proofs.Writes.{part_written}
use Rattle.offpage_chain.proofs.write.put_part.Goals as goal

pub returns : goal.returns
returns c =
    let size = ap length c.clear.ensures ∙ length-replicate {A = ℕ} 16384 0 in
    let first = c.write_be.new.page in
    let next = c.write_be-2.ensures.others ∙ ap (λ (n : ℕ). with_bytes first 42 (be_bytes 4 n)) c.from.ensures in
    part_written c.clear.new.self first c.write_be-2.new.page c.put_bytes.new.self c.args.part.now c.args.next size
    c.write_be.ensures.others next c.put_bytes.ensures
    ∙ ap (λ (p : List ℕ). with_bytes p 38 (part_body c.args.part.now c.args.next)) c.clear.ensures
