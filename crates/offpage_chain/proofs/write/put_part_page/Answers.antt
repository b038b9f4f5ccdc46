use Rattle.std.proofs.Common.{◌≡◌, ◌∙◌, ap, ℕ, List, replicate, slice_index}
use Rattle.page_source.specs.Pages.{with_bytes}
use Rattle.page_source.specs.Lists.{after_place}
use Rattle.page_source.specs.Pages.{fil_null}
use Rattle.fil_frame.specs.Kinds.{blob_kind}
use Rattle.fil_frame.specs.Frame.{sealed}
use Rattle.offpage_chain.specs.ValuePage.{blob_part, part_body, part_page}
use Rattle.offpage_chain.proofs.write.put_part_page.Goals as goal

pub returns : goal.returns
unfolding part_page
returns c =
    let n = slice_index c.args.numbers.now c.args.k in
    let next = after_place fil_null c.args.numbers.now c.args.k in
    let zeros = replicate 16384 0 in
    let body : c.put_part.new.page ≡ with_bytes zeros 38 (part_body (blob_part c.args.bytes.now c.args.k) next) =
    c.put_part.ensures
    ∙ ap (λ (p : List ℕ). with_bytes zeros 38 (part_body p c.next_of.result)) c.part_of-part.ensures
    ∙ ap (λ (m : ℕ). with_bytes zeros 38 (part_body (blob_part c.args.bytes.now c.args.k) m)) c.next_of.ensures in
    c.seal.ensures.exact ∙ ap (λ (p : List ℕ). sealed p n c.args.space 1 blob_kind) body
