use Rattle.std.proofs.Common.{◌≡◌, length, ap, sym, ◌∙◌, arith}
use Rattle.space_header.specs.Header.{base_at}
use Rattle.space_header.proofs.Fields.{base_read}
use Rattle.space_header.proofs.address.write_base.Goals as goal

pub returns-clause-read : goal.returns-clause-read
returns-clause-read c =
    let size : length c.args.page.now ≡ 16384 = ap length (sym c.bytes.ensures.same) ∙ c.bytes.ensures.size in
    ap (λ page. base_at page c.args.at) c.put_base.ensures.exact
    ∙ base_read c.args.page.now c.args.at c.args.base.now (omega arith) c.put_base.ensures.fits
