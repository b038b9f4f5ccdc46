use Rattle.std.proofs.Common.{◌≡◌, ◌≢◌, ℕ, ◌+◌, ◌<◌, List, ◌++◌, [], ◌∷◌, length, get_or, take, take_all, refl, sym}
use Rattle.std.proofs.Common.{◌∙◌, ap, subst, arith, append_assoc, below_more}
use Rattle.space_audit.specs.Audit.{IsSlot}
use Rattle.space_audit.specs.Holders.{Claim, AreHeld, claims_of}
use Rattle.space_audit.proofs.ListSteps.{get_other}
use Rattle.space_audit.proofs.Held.{claims_more_yes, claims_more_no}
use Rattle.space_audit.proofs.ClaimSteps.{slot_holds, slot_breaks, slot_past, slots_more}
use Rattle.space_audit.proofs.page_claims.claim_slots.Goals.{then-slot+else-slot-size+else-not-is_claimable, else-slot}
use Rattle.space_audit.proofs.page_claims.claim_slots.Goals.{then-slot-size-via-then-slot-size}
use Rattle.space_audit.proofs.page_claims.claim_slots.Goals.{then-slot-size-via-else-slot-size+then-not-is_claimable}
use Rattle.space_audit.proofs.page_claims.claim_slots.Goals as goal

pub returns-then-slot-size-clause-exact : goal.returns-then-slot-size-clause-exact
returns-then-slot-size-clause-exact c = λ file are size.
    let slots = c.args.slots.now in
    let k = c.loop-slot.slot-index in
    let slot = get_or slots k 0 in
    let broken : ¬ (IsSlot file slot) = elim c.then-slot-size.branch [
      | then-slot-size-via-then-slot-size w ↦ slot_past file slot c.args.size w.if-slot-size.true size c.if-slot.true
      | then-slot-size-via-else-slot-size+then-not-is_claimable w ↦
          slot_breaks file slot c.args.size w.is_claimable.result (w.is_claimable.ensures file are)
          w.if-not-is_claimable.true c.if-slot.true
    ] in (
      k,
      c.loop-slot-test.true,
      c.loop-slot.invariant.checked file are size,
      λ d. (
        (λ is. broken (subst (λ m. IsSlot file m) (get_other slots k d 0 c.loop-slot-test.true) is)),
        c.at.ensures,
      ),
    )

pub loop-slot-preserved : goal.loop-slot-preserved
loop-slot-preserved c =
    let i = c.loop-slot.invariant in
    let slots = c.args.slots.now in
    let k = c.loop-slot.slot-index in
    let slot = get_or slots k 0 in
    elim c.if-slot.branch [
      | then-slot+else-slot-size+else-not-is_claimable w ↦
          record {
            checked = λ file are size. slots_more file slots k c.loop-slot-test.true (i.checked file are size)
                (λ _. slot_holds file slot c.args.size w.is_claimable.result (w.is_claimable.ensures file are)
                w.if-not-is_claimable.false
                w.if-slot-size.false size);
            held = λ claims a.
                let so_far = claims_of c.args.who (take k slots) in
                let one : List Claim = record { page = slot; who = c.args.who } ∷ [] in
                subst (λ xs. AreHeld c.if-slot.holders (claims ++ xs))
                (sym (claims_more_yes c.args.who slots k c.loop-slot-test.true w.if-slot.true))
                (subst (λ xs. AreHeld c.if-slot.holders xs) (append_assoc claims so_far one)
                (subst (λ hs. AreHeld hs ((claims ++ so_far) ++ one)) (sym w.holders-is)
                (w.claim.ensures (claims ++ so_far) (i.held claims a))));
          }
      | else-slot w ↦
          record {
            checked = λ file are size. slots_more file slots k c.loop-slot-test.true (i.checked file are size)
                (λ n. absurd (n w.if-slot.false));
            held = λ claims a.
                subst (λ xs. AreHeld c.if-slot.holders (claims ++ xs))
                (sym (claims_more_no c.args.who slots k c.loop-slot-test.true w.if-slot.false))
                (subst (λ hs. AreHeld hs (claims ++ claims_of c.args.who (take k slots))) (sym w.holders-is)
                (i.held claims a));
          }
    ]

pub returns-clause-exact : goal.returns-clause-exact
returns-clause-exact c = λ file are size j d l.
    c.loop-slot.invariant.checked file are size j d (omega (arith, l, c.loop-slot-test.false))

pub returns-clause-held : goal.returns-clause-held
returns-clause-held c = λ claims a.
    let slots = c.args.slots.now in
    let all : take c.loop-slot.slot-index slots ≡ slots = take_all c.loop-slot.slot-index slots
    (omega (arith, c.loop-slot-test.false)) in
    subst (λ xs. AreHeld c.loop-slot.holders (claims ++ claims_of c.args.who xs)) all
    (c.loop-slot.invariant.held claims a)
