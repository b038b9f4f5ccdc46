use Rattle.std.proofs.Common.{◌≡◌, ℕ, ◌+◌, ◌<◌, ◌≤◌, length, get_or, set, sym, ◌∙◌, ap, subst, inl, inr, arith}
use Rattle.std.proofs.Common.{get_or-set_same, get_or-set_other}
use Rattle.std.proofs.lemmas.Bool.{cases_lt}
use Rattle.space_audit.specs.Owners.{owner_by, owner_of, IsSmall}
use Rattle.space_audit.proofs.FindOwner.{owner_small}
use Rattle.space_audit.proofs.page_owners.settle_owners.Goals as goal

pub loop-n-preserved : goal.loop-n-preserved
loop-n-preserved c =
    let n = c.loop-n.n in
    let holders = c.loop-n.holders in
    let number = c.number_of.result in
    let i = c.loop-n.invariant in
    record {
      later = λ k l. get_or-set_other holders n k number 0 (λ e. absurd (omega (arith, e, l)))
          ∙ i.later k (omega (arith, l));
      settled = λ file inodes h a k l. elim (cases_lt k n) [
        | inl below ↦
            ap owner_by (get_or-set_other holders n k number 0 (λ e. absurd (omega (arith, e, below))))
            ∙ i.settled file inodes h a k below
        | inr above ↦
            let here : n ≡ k = omega (arith, l, above) in
            let holder = i.later n (omega arith) ∙ a n (omega (arith, c.loop-n-test.true, c.loop-n.auto.holders)) in
            let found = c.find_owner-owner.ensures file inodes h holder in
            let small = subst IsSmall (sym found) (owner_small file n h.few) in
            subst (λ m. owner_by (get_or (set holders n number) m 0) ≡ owner_of file m) here
            (ap owner_by (get_or-set_same holders n number 0
            (omega (arith, c.loop-n-test.true, c.loop-n.auto.holders)))
            ∙ (c.number_of.ensures small ∙ found))
      ];
    }

pub returns : goal.returns
returns c = λ file inodes h a n l.
    c.loop-n.invariant.settled file inodes h a n (omega (arith, l, c.loop-n-test.false, c.loop-n.auto.holders))
