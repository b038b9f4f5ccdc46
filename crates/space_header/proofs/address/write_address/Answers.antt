use Rattle.std.proofs.Common.{◌≡◌, ◌+◌, length, ap, sym, ◌∙◌, arith}
use Rattle.page_source.specs.Pages.{with_bytes, be_bytes}
use Rattle.space_header.proofs.Fields.{address_written}
use Rattle.space_header.proofs.address.write_address.Goals as goal

pub returns-clause-exact : goal.returns-clause-exact
returns-clause-exact c =
    let size : length c.args.page.now ≡ 16384 = ap length (sym c.bytes.ensures.same) ∙ c.bytes.ensures.size in
    let a = c.args.address.now in
    let page : c.write_be.new.page ≡ with_bytes c.args.page.now c.args.at (be_bytes 4 a.page) =
    c.write_be.ensures.others ∙ ap (λ n. with_bytes c.args.page.now c.args.at (be_bytes 4 n)) c.from.ensures in
    c.write_be-2.ensures.others
    ∙ ap (λ n. with_bytes c.write_be.new.page (c.args.at + 4) (be_bytes 2 n)) c.from-2.ensures
    ∙ ap (λ now. with_bytes now (c.args.at + 4) (be_bytes 2 a.offset)) page
    ∙ address_written c.args.page.now c.args.at a (omega arith)

pub returns-clause-fits : goal.returns-clause-fits
returns-clause-fits c = record { page = omega arith; offset = omega arith }
