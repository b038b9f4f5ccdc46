use Rattle.std.proofs.Common.{◌≡◌, ◌<◌, sym, ap, ◌∙◌, arith}
use Rattle.std.proofs.lemmas.Bool.{eq-eqb, eqb-true}
use Rattle.page_source.specs.Pages.{page_of}
use Rattle.fil_frame.specs.Frame.{kind_of}
use Rattle.space_header.specs.Header.{size_of}
use Rattle.space_audit.specs.declared.owner.Owner.TheVariants.{Used}
use Rattle.space_audit.specs.Owners.{IsUsedBy}
use Rattle.space_audit.proofs.Audited.{used_is}
use Rattle.space_audit.proofs.space.Space.has_page.Goals as goal

pub returns-then-owner-segment-clause-told : goal.returns-then-owner-segment-clause-told
returns-then-owner-segment-clause-told c file a =
    let n = c.args.n in
    let owner : IsUsedBy file c.args.segment n = sym (c.owner.ensures.told file a)
    ∙ (c.in-Used.is ∙ ap Used c.if-owner-segment.true) in
    let kind : c.kind.result ≡ kind_of (page_of file n) = c.kind.ensures.told file a
    (used_is file c.args.segment n owner) in
    let size = c.size.ensures.told file a in
    let below : n < size_of file = omega (arith, size.stated, c.if-n-size.false) in (
      (λ t. record { below = below; used = owner; has_kind = sym kind ∙ eqb-true _ _ t }),
      (λ p. eq-eqb _ _ (kind ∙ p.has_kind)),
    )
