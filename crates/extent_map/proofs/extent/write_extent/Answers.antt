use Rattle.std.proofs.Common.{◌≡◌, ◌+◌, length, ap, sym, ◌∙◌, arith}
use Rattle.page_source.specs.Pages.{num, with_bytes, be_bytes}
use Rattle.page_source.proofs.Written.{length-with_bytes}
use Rattle.space_header.specs.Header.{node_at}
use Rattle.space_header.specs.Writing.{node_bytes}
use Rattle.extent_map.specs.Writing.{bitmap_bytes}
use Rattle.extent_map.specs.Extents.{extent_at}
use Rattle.extent_map.proofs.Writing.{with_fields, extent_written, extent_read}
use Rattle.extent_map.proofs.extent.write_extent.Goals as goal

-- the fields were written one behind the other
stated : (c : goal.After-put_bytes) → c.write_be-2.new.page ≡ with_bytes (with_bytes c.write_be.new.page (c.args.at + 8)
    (node_bytes c.args.extent.now.node)) (c.args.at + 20) (be_bytes 4 c.args.extent.now.state)
stated c =
    c.write_be-2.ensures.others
    ∙ ap (λ n. with_bytes c.write_node.new.page (c.args.at + 20) (be_bytes 4 n)) c.from.ensures
    ∙ ap (λ now. with_bytes now (c.args.at + 20) (be_bytes 4 c.args.extent.now.state)) c.write_node.ensures.exact

fields : (c : goal.After-put_bytes) → c.put_bytes.new.self ≡ with_fields c.write_be.new.page c.args.at c.args.extent.now
fields c =
    c.put_bytes.ensures ∙ ap (with_bytes c.write_be-2.new.page (c.args.at + 24)) c.bitmap.ensures
    ∙ ap (λ now. with_bytes now (c.args.at + 24) (bitmap_bytes c.args.extent.now.used)) (stated c)

pub returns-clause-exact : goal.returns-clause-exact
returns-clause-exact c =
    let size : length c.args.page.now ≡ 16384 = ap length (sym c.bytes.ensures.same) ∙ c.bytes.ensures.size in
    fields c ∙ ap (λ page. with_fields page c.args.at c.args.extent.now) c.write_be.ensures.others
    ∙ extent_written c.args.page.now c.args.at c.args.extent.now (omega arith)

pub returns-clause-read : goal.returns-clause-read
returns-clause-read c =
    let size : length c.args.page.now ≡ 16384 = ap length (sym c.bytes.ensures.same) ∙ c.bytes.ensures.size in
    let at = c.args.at in
    let x = c.args.extent.now in
    let first : length c.write_be.new.page ≡ 16384 =
    ap length c.write_be.ensures.others ∙ length-with_bytes c.args.page.now at (be_bytes 8 x.id) (omega (arith, size))
    ∙ size in
    ap (λ page. extent_at page at) (fields c)
    ∙ extent_read c.write_be.new.page at x (omega (arith, first)) (omega arith) c.write_be.ensures.number
    (ap (λ page. node_at page (at + 8)) (sym c.write_node.ensures.exact) ∙ c.write_node.ensures.read)
    (ap (λ page. num page (at + 20) 4) (sym (stated c)) ∙ c.write_be-2.ensures.number ∙ c.from.ensures)
