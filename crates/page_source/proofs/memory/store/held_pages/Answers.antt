use Rattle.std.proofs.Common.{ℕ, refl, ap, ◌∙◌, arith}
use Rattle.std.specs.FinMap.{insert}
use Rattle.page_source.proofs.Slots.{popped, held_more}
use Rattle.page_source.proofs.memory.store.held_pages.Goals as goal

pub loop-slot-preserved-in-Continue-1 : goal.loop-slot-preserved-in-Continue-1
loop-slot-preserved-in-Continue-1 c =
    let parts = popped c.args.slots.items c.loop-slot.slots.items c.pop.new.self.items c.in-Some.slot _ _
    c.in-Some.ensures.items c.pop.new.self.ok.0 c.loop-slot.invariant.all in
    let put = c.in_ok-put.ensures.ok ∙ ap (λ (k : ℕ). insert c.loop-slot.held k c.in-Some.slot.page) c.len.ensures in
    record {
      all = parts.0;
      within = omega (arith, c.loop-slot.invariant.within, c.in-Some.ensures.len);
      held = held_more c.in-Some.slot _ _ _ _ c.loop-slot.held c.put.new.self
          (omega (arith, c.in-Some.ensures.len)) parts.1 c.loop-slot.invariant.held (rw c.if-slot.true put);
    }

pub loop-slot-preserved : goal.loop-slot-preserved
loop-slot-preserved c =
    let parts = popped c.args.slots.items c.loop-slot.slots.items c.pop.new.self.items c.in-Some.slot _ _
    c.in-Some.ensures.items c.pop.new.self.ok.0 c.loop-slot.invariant.all in
    record {
      all = parts.0;
      within = omega (arith, c.loop-slot.invariant.within, c.in-Some.ensures.len);
      held = held_more c.in-Some.slot _ _ _ _ c.loop-slot.held c.loop-slot.held
          (omega (arith, c.in-Some.ensures.len)) parts.1 c.loop-slot.invariant.held (rw c.if-slot.false refl);
    }
