use Rattle.std.proofs.Common.{◌≡◌, ◌+◌, length, refl, ap, sym, ◌∙◌, arith, rules}
use Rattle.inode_segments.proofs.Writing.{with_fields, inode_written, put, put_after, base_size, inode_read}
use Rattle.inode_segments.proofs.inode.write_inode.Goals as goal

fields : (c : goal.After-write_slots) → c.write_slots.new.page ≡ with_fields c.write_be.new.page c.args.at
    c.args.inode.now
fields c = search rules

pub returns-clause-exact : goal.returns-clause-exact
returns-clause-exact c =
    let size : length c.args.page.now ≡ 16384 = ap length (sym c.bytes.ensures.same) ∙ c.bytes.ensures.size in
    fields c ∙ ap (λ page. with_fields page c.args.at c.args.inode.now) c.write_be.ensures.others
    ∙ inode_written c.args.page.now c.args.at c.args.inode.now (omega arith)

pub returns-clause-read : goal.returns-clause-read
returns-clause-read c =
    let at = c.args.at in
    let x = c.args.inode.now in
    let size : length c.args.page.now ≡ 16384 = ap length (sym c.bytes.ensures.same) ∙ c.bytes.ensures.size in
    let id = put _ c.write_be.new.page at 8 _ c.write_be.ensures.others size refl (omega arith) in
    let used = put _ c.write_be-2.new.page (at + 8) 4 _ c.write_be-2.ensures.others id.size refl (omega arith) in
    let free = put _ c.write_base.new.page (at + 12) 16 _ c.write_base.ensures.exact used.size (base_size x.free) (omega
    arith) in
    let not_full = put _ c.write_base-2.new.page (at + 28) 16 _ c.write_base-2.ensures.exact free.size
    (base_size x.not_full) (omega arith) in
    let full = put _ c.write_base-3.new.page (at + 44) 16 _ c.write_base-3.ensures.exact not_full.size
    (base_size x.full) (omega arith) in
    let magic = put _ c.write_be-3.new.page (at + 60) 4 _ c.write_be-3.ensures.others full.size refl (omega arith) in
    let slots = put_after _ c.write_slots.new.page (at + 64) _ c.write_slots.ensures.exact
    (omega (arith, magic.size)) in
    inode_read c.write_be.new.page c.write_be-2.new.page c.write_base.new.page c.write_base-2.new.page
    c.write_base-3.new.page c.write_be-3.new.page c.write_slots.new.page at x
    used.same free.same not_full.same full.same magic.same slots
    c.write_be.ensures.number (c.write_be-2.ensures.number ∙ c.from.ensures) c.write_base.ensures.read
    c.write_base-2.ensures.read c.write_base-3.ensures.read (c.write_be-3.ensures.number ∙ c.from-2.ensures)
    c.write_slots.ensures.read
