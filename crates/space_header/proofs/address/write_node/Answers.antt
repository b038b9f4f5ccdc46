use Rattle.std.proofs.Common.{◌≡◌, ◌+◌, length, ap, sym, ◌∙◌, arith}
use Rattle.page_source.specs.Pages.{with_bytes}
use Rattle.space_header.specs.Header.{node_at}
use Rattle.space_header.specs.Writing.{address_bytes}
use Rattle.space_header.proofs.Fields.{node_written, node_read}
use Rattle.space_header.proofs.address.write_node.Goals as goal

pub returns-clause-exact : goal.returns-clause-exact
returns-clause-exact c =
    let size : length c.args.page.now ≡ 16384 = ap length (sym c.bytes.ensures.same) ∙ c.bytes.ensures.size in
    c.write_address-2.ensures.exact
    ∙ ap (λ now. with_bytes now (c.args.at + 6) (address_bytes c.args.node.now.next)) c.write_address.ensures.exact
    ∙ node_written c.args.page.now c.args.at c.args.node.now (omega arith)

pub returns-clause-read : goal.returns-clause-read
returns-clause-read c =
    let size : length c.args.page.now ≡ 16384 = ap length (sym c.bytes.ensures.same) ∙ c.bytes.ensures.size in
    ap (λ page. node_at page c.args.at) (returns-clause-exact c)
    ∙ node_read c.args.page.now c.args.at c.args.node.now (omega arith)
    record { prev = c.write_address.ensures.fits; next = c.write_address-2.ensures.fits }
