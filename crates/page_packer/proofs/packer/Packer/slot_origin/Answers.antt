use Rattle.std.proofs.Common.{◌≡◌, ℕ, length, sym, ap, ◌∙◌, arith}
use Rattle.page_packer.specs.Packing.{slots_for, slot_origin}
use Rattle.page_packer.proofs.DirectoryFacts.{slot_first, slot_last, slot_middle}
use Rattle.page_packer.proofs.packer.Packer.slot_origin.Goals as goal

pub returns-then-slot-eq0-clause-value : goal.returns-then-slot-eq0-clause-value
returns-then-slot-eq0-clause-value c =
    sym (ap (λ (i : ℕ). slot_origin c.args.self.now.records i) c.if-slot-eq0.true ∙ slot_first c.args.self.now.records)

pub returns-then-slot-slots-clause-value : goal.returns-then-slot-slots-clause-value
returns-then-slot-slots-clause-value c =
    let slots : c.slots_for-slots.result ≡ slots_for (length c.args.self.now.records) =
    c.slots_for-slots.ensures.value ∙ ap (λ (n : ℕ). slots_for n) c.count.ensures.value in
    sym (slot_last c.args.self.now.records c.args.slot (omega (arith, c.if-slot-eq0.false))
    (c.if-slot-slots.true ∙ slots))

pub returns-else-slot-slots-clause-value : goal.returns-else-slot-slots-clause-value
returns-else-slot-slots-clause-value c =
    let slots : c.slots_for-slots.result ≡ slots_for (length c.args.self.now.records) =
    c.slots_for-slots.ensures.value ∙ ap (λ (n : ℕ). slots_for n) c.count.ensures.value in
    let within = c.requires in
    c.origin_at.ensures.value
    ∙ sym (slot_middle c.args.self.now.records c.args.slot (omega (arith, c.if-slot-eq0.false))
    (omega (arith, c.if-slot-slots.false, slots, within)))
