use Rattle.std.proofs.Common.{arith}
use Rattle.tree_walk.proofs.LastRecord.{owner_passed, next_passed, all_passed}
use Rattle.tree_walk.proofs.place.records.last_of_group.Goals as goal

pub loop-init : goal.loop-init
loop-init c =
    owner_passed c.args.page.now c.args.fields.now c.requires.facts c.last_owner-at.result c.last_owner-at.ensures

pub returns-then-next-eq-SUPREMUM : goal.returns-then-next-eq-SUPREMUM
returns-then-next-eq-SUPREMUM c =
    all_passed c.args.page.now c.args.fields.now c.requires.facts c.loop.at c.next_origin-next.result c.loop.invariant
    c.next_origin-next.ensures.value (omega (arith, c.if-next-eq-SUPREMUM.true))

pub loop-preserved : goal.loop-preserved
loop-preserved c =
    next_passed c.args.page.now c.args.fields.now c.requires.facts c.loop.at c.next_origin-next.result c.loop.invariant
    c.next_origin-next.ensures.value (λ e. omega (arith, e, c.if-next-eq-SUPREMUM.false))
