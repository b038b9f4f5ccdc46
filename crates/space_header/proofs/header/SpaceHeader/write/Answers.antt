use Rattle.std.proofs.Common.{◌≡◌, length, ap, sym, ◌∙◌, arith, rules}
use Rattle.space_header.specs.Header.{header_of}
use Rattle.space_header.specs.Writing.{FitsHeader}
use Rattle.space_header.proofs.Fields.{header_fields, header_written, header_read}
use Rattle.space_header.proofs.header.SpaceHeader.write.Goals as goal

pub returns-clause-exact : goal.returns-clause-exact
returns-clause-exact c =
    let size : length c.args.page.now ≡ 16384 = ap length (sym c.bytes.ensures.same) ∙ c.bytes.ensures.size in
    let fields : c.put_base-5.new.page ≡ header_fields c.args.page.now c.args.self.now = search rules in
    fields ∙ header_written c.args.page.now c.args.self.now size

pub returns-clause-read : goal.returns-clause-read
returns-clause-read c =
    let size : length c.args.page.now ≡ 16384 = ap length (sym c.bytes.ensures.same) ∙ c.bytes.ensures.size in
    let fits : FitsHeader c.args.self.now = record {
      space = omega arith;
      size = omega arith;
      limit = omega arith;
      flags = omega arith;
      frag_used = omega arith;
      next_segment = omega arith;
      free = c.put_base.ensures.fits;
      free_frag = c.put_base-2.ensures.fits;
      full_frag = c.put_base-3.ensures.fits;
      inodes_full = c.put_base-4.ensures.fits;
      inodes_free = c.put_base-5.ensures.fits;
    } in
    ap header_of (returns-clause-exact c) ∙ header_read c.args.page.now c.args.self.now size fits
