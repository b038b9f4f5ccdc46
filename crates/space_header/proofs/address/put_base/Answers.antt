use Rattle.std.proofs.Common.{◌≡◌, ◌+◌, length, ap, sym, ◌∙◌, arith}
use Rattle.page_source.specs.Pages.{with_bytes, be_bytes}
use Rattle.space_header.specs.Writing.{address_bytes}
use Rattle.space_header.proofs.Fields.{base_written}
use Rattle.space_header.proofs.address.put_base.Goals as goal

pub returns-clause-exact : goal.returns-clause-exact
returns-clause-exact c =
    let size : length c.args.page.now ≡ 16384 = ap length (sym c.bytes.ensures.same) ∙ c.bytes.ensures.size in
    let base = c.args.base.now in
    let at = c.args.at in
    let counted : c.write_be.new.page ≡ with_bytes c.args.page.now at (be_bytes 4 base.length) =
    c.write_be.ensures.others ∙ ap (λ n. with_bytes c.args.page.now at (be_bytes 4 n)) c.from.ensures in
    c.write_address-2.ensures.exact
    ∙ ap (λ now. with_bytes now (at + 10) (address_bytes base.last)) (c.write_address.ensures.exact
    ∙ ap (λ now. with_bytes now (at + 4) (address_bytes base.first)) counted)
    ∙ base_written c.args.page.now at base (omega arith)

pub returns-clause-fits : goal.returns-clause-fits
returns-clause-fits c =
    record { length = omega arith; first = c.write_address.ensures.fits; last = c.write_address-2.ensures.fits }
