use Rattle.std.proofs.Common.{◌≡◌, length, ap, ◌∙◌, sym, arith, rules}
use Rattle.page_source.specs.Pages.{be_bytes, with_bytes}
use Rattle.fil_frame.specs.Sums.{first_sum_of}
use Rattle.fil_frame.specs.Frame.{with_frame, sealed_as}
use Rattle.fil_frame.proofs.Sealed.{SealsAs-sealed_as, first_sum_of-with_first, length-with_frame}
use Rattle.fil_frame.proofs.frame.seal_as.Goals as goal

pub second_sum-second-requires : goal.second_sum-second-requires
second_sum-second-requires c =
    let a = c.args in
    let size : length a.page.now ≡ 16384 = ap length (sym c.bytes.ensures.same) ∙ c.bytes.ensures.size in
    let framed = with_frame a.page.now a.n a.space a.lsn a.kind in
    let kept : first_sum_of a.sum (with_bytes framed 0
    (be_bytes 4 c.first_sum-first.result)) ≡ first_sum_of a.sum framed =
    first_sum_of-with_first a.sum framed c.first_sum-first.result
    (length-with_frame a.page.now a.n a.space a.lsn a.kind size) in
    let is_first : c.first_sum-first.result ≡ first_sum_of a.sum framed =
    c.first_sum-first.ensures ∙ ap (first_sum_of a.sum) c.put_fields.ensures in
    let is_page : c.write_be.new.page ≡ with_bytes framed 0 (be_bytes 4 c.first_sum-first.result) =
    c.write_be.ensures.others ∙ ap (λ page. with_bytes page 0 (be_bytes 4 c.from.result)) c.put_fields.ensures
    ∙ ap (λ sum. with_bytes framed 0 (be_bytes 4 sum)) c.from.ensures in
    is_first ∙ sym kept ∙ ap (first_sum_of a.sum) (sym is_page)

pub returns-clause-exact : goal.returns-clause-exact
unfolding sealed_as
returns-clause-exact c = search rules

pub returns-clause-seals : goal.returns-clause-seals
returns-clause-seals c =
    let a = c.args in
    let size : length a.page.now ≡ 16384 = ap length (sym c.bytes.ensures.same) ∙ c.bytes.ensures.size in
    rw (returns-clause-exact c) (SealsAs-sealed_as a.page.now a.n a.space a.lsn a.kind a.sum size (omega arith)
    (omega arith) (omega arith) (omega arith))
