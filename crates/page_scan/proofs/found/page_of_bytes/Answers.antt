use Rattle.std.proofs.Common.{◌≡◌, length, sym, ap, ◌∙◌, refl, arith}
use Rattle.std.proofs.lemmas.Bool.{false≢true}
use Rattle.page_source.specs.Pages.{num}
use Rattle.leaf_salvage.specs.Standing.{Stands}
use Rattle.page_scan.proofs.Pages.{with_all, no_page_by_frame, page_by_frame, stands_as, page_as}
use Rattle.page_scan.proofs.found.page_of_bytes.Goals as goal

pub returns-then-not-stands : goal.returns-then-not-stands
returns-then-not-stands c =
    let whole : length c.args.page.now ≡ 16384 = omega (arith, c.bytes.ensures.size, ap length c.bytes.ensures.same) in
    let same : c.put_bytes.new.self ≡ c.args.bytes.now =
    c.put_bytes.ensures ∙ with_all c.args.page.now c.args.bytes.now whole c.requires in
    no_page_by_frame c.args.bytes.now
    (λ (stands : Stands c.args.bytes.now (num c.args.bytes.now 4 4)).
    false≢true (c.if-not-stands.ensures.1
    (stands_as c.args.bytes.now c.put_bytes.new.self (num c.args.bytes.now 4 4) c.long_at-number.result (sym same)
    (sym c.long_at-number.ensures) stands)))

pub returns : goal.returns
returns c =
    let whole : length c.args.page.now ≡ 16384 = omega (arith, c.bytes.ensures.size, ap length c.bytes.ensures.same) in
    let same : c.put_bytes.new.self ≡ c.args.bytes.now =
    c.put_bytes.ensures ∙ with_all c.args.page.now c.args.bytes.now whole c.requires in
    let stands : Stands c.args.bytes.now (num c.args.bytes.now 4 4) =
    stands_as c.put_bytes.new.self c.args.bytes.now c.long_at-number.result (num c.args.bytes.now 4 4) same
    c.long_at-number.ensures (c.if-not-stands.ensures.0 refl) in (
      same,
      page_as c.args.bytes.now c.put_bytes.new.self c.long_at.result c.long_at-number.result (sym same)
          (sym c.long_at.ensures) (sym c.long_at-number.ensures)
          (page_by_frame c.args.bytes.now (c.if-not-looks_like_page.ensures.0 refl) stands),
    )
