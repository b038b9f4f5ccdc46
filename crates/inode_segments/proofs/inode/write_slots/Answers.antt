use Rattle.std.proofs.Common.{◌≡◌, ◌+◌, ◌*◌, length, take, get_or, ap, sym, ◌∙◌, arith}
use Rattle.std.proofs.lemmas.List.{take_all}
use Rattle.page_source.specs.Pages.{with_bytes, be_bytes}
use Rattle.inode_segments.specs.Writing.{slots_bytes}
use Rattle.inode_segments.proofs.Writing.{slots_none, nothing_written, slot_written, slots_written_size, slot_read}
use Rattle.inode_segments.proofs.Writing.{slots_read}
use Rattle.inode_segments.proofs.inode.write_slots.Goals as goal

pub loop-i-init : goal.loop-i-init
loop-i-init c = record {
  exact = sym (ap (with_bytes c.args.page.now c.args.at) (slots_none c.args.slots.now)
      ∙ nothing_written c.args.page.now c.args.at);
  read = λ k none. absurd (omega arith);
}

pub loop-i-preserved : goal.loop-i-preserved
loop-i-preserved c =
    let size : length c.args.page.now ≡ 16384 = ap length (sym c.bytes.ensures.same) ∙ c.bytes.ensures.size in
    let i = c.loop-i.i in
    let at = c.args.at in
    let slots = c.args.slots.now in
    let so_far = c.loop-i.invariant in
    let here : c.write_be.new.page ≡ with_bytes c.loop-i.page (at + 4 * i) (be_bytes 4 (get_or slots i 0)) =
    c.write_be.ensures.others ∙ ap (λ n. with_bytes c.loop-i.page (at + 4 * i) (be_bytes 4 n)) c.from.ensures in
    let length_now = slots_written_size c.args.page.now c.loop-i.page at i slots (omega (arith, size)) (omega arith)
    c.told-slots so_far.exact in
    record {
      exact = here ∙ slot_written c.args.page.now c.loop-i.page at i slots (omega (arith, size)) (omega arith)
          c.told-slots so_far.exact;
      read = slot_read c.loop-i.page c.write_be.new.page at i slots (omega (arith, size, length_now)) here
          (c.write_be.ensures.number ∙ c.from.ensures) so_far.read;
    }

pub returns-clause-exact : goal.returns-clause-exact
returns-clause-exact c =
    let all : take c.loop-i.i c.args.slots.now ≡ c.args.slots.now = take_all c.loop-i.i c.args.slots.now
    (omega (arith, c.told-slots)) in
    c.loop-i.invariant.exact ∙ ap (λ xs. with_bytes c.args.page.now c.args.at (slots_bytes xs)) all

pub returns-clause-read : goal.returns-clause-read
returns-clause-read c =
    slots_read c.loop-i.page c.args.at c.args.slots.now c.told-slots
    (λ k small. c.loop-i.invariant.read k (omega arith))
