use Rattle.std.proofs.Common.{◌<◌, ◌≤◌, [], ◌∷◌, length, refl, sym, ◌∙◌, subst, arith, length-append}
use Rattle.std.proofs.lemmas.Bool.{false≢true}
use Rattle.page_source.proofs.Members.{distinct_below}
use Rattle.space_header.specs.Header.{extent_address}
use Rattle.space_header.specs.Linked.{PointsTo, node_in}
use Rattle.space_header.proofs.Chains.{extents_addressing}
use Rattle.space_header.proofs.Walks.{walked_none, walked_more, walked_goes_on, walked_ends, walked_linked}
use Rattle.space_header.proofs.list.follow.Goals as goal

pub returns-then-base-nodes-clause-broken : goal.returns-then-base-nodes-clause-broken
returns-then-base-nodes-clause-broken g c = λ _ list h.
    let few : length list ≤ length c.args.nodes.now = distinct_below list
    (length c.args.nodes.now) h.distinct h.members in
    omega (arith, h.count)

pub loop-place-init : goal.loop-place-init
loop-place-init g c =
    let nodes = c.args.nodes.now in
    record {
      count = rw c.in_ok-extents.ensures.items refl;
      steps = omega arith;
      below = tt;
      walked = rw c.in_ok-extents.ensures.items (walked_none (node_in nodes) extent_address
          (λ e. e < length nodes) c.args.base.now.last c.args.base.now.first);
    }

pub returns-in_default-clause-broken : goal.returns-in_default-clause-broken
returns-in_default-clause-broken g c = λ _ list h.
    let on = walked_goes_on _ extent_address _ c.args.base.now _ _ _ c.loop-place.invariant.walked (omega
    (arith, c.loop-place.invariant.count)) list h in
    c.in_default.ensures.none on.member on.is_member on.found_there

pub returns-in_default-clause-bound : goal.returns-in_default-clause-bound
returns-in_default-clause-bound g c = omega (arith, c.loop-place.invariant.steps)

pub points_to-requires : goal.points_to-requires
points_to-requires g c = c.loop-place.invariant.below

pub returns-then-not-points_to-clause-broken : goal.returns-then-not-points_to-clause-broken
returns-then-not-points_to-clause-broken g c = λ _ list h.
    let nodes = c.args.nodes.now in
    let on = walked_goes_on _ extent_address _ c.args.base.now _ _ _ c.loop-place.invariant.walked (omega
    (arith, c.loop-place.invariant.count)) list h in
    let same = (extents_addressing
    (length nodes) c.requires).one on.member c.in-Some.extent on.is_member c.in-Some.ensures.some.0
    (sym on.found_there ∙ c.in-Some.ensures.some.1) in
    false≢true (c.if-not-points_to.ensures.1 (subst (λ e. PointsTo extent_address
    (node_in nodes e).prev c.loop-place.before) same on.back))

pub returns-then-not-points_to-clause-bound : goal.returns-then-not-points_to-clause-bound
returns-then-not-points_to-clause-bound g c = omega (arith, c.loop-place.invariant.steps)

pub returns-in_err-push-clause-bound : goal.returns-in_err-push-clause-bound
returns-in_err-push-clause-bound g c = omega (arith, c.loop-place.invariant.steps)

pub loop-place-preserved : goal.loop-place-preserved
loop-place-preserved g c =
    let nodes = c.args.nodes.now in
    let i = c.loop-place.invariant in
    let e = c.in-Some.extent in
    record {
      count = rw c.in_ok-push.ensures.items (omega (arith, length-append c.loop-place.extents.items (e ∷ []), i.count));
      steps = omega (arith, i.steps);
      below = omega (arith, c.in-Some.ensures.some.0);
      walked = rw c.in_ok-push.ensures.items (walked_more (node_in nodes) extent_address _ _ _ _ _ _
          (extents_addressing (length nodes) c.requires) e c.in-Some.ensures.some.0 c.in-Some.ensures.some.1
          (c.if-not-points_to.ensures.0 refl) i.walked);
    }

pub points_to-requires-2 : goal.points_to-requires-2
points_to-requires-2 g c = c.loop-place.invariant.below

pub returns-then-not-is_null-clause-broken : goal.returns-then-not-is_null-clause-broken
returns-then-not-is_null-clause-broken g c = λ _ list h.
    false≢true (c.if-not-is_null.ensures.1
    (walked_ends _ extent_address _ c.args.base.now _ _ _ c.loop-place.invariant.walked (omega
    (arith, c.loop-place.invariant.count)) list h).0)

pub returns-then-not-is_null-clause-bound : goal.returns-then-not-is_null-clause-bound
returns-then-not-is_null-clause-bound g c = omega (arith, c.loop-place.invariant.steps)

pub returns-then-not-points_to-2-clause-broken : goal.returns-then-not-points_to-2-clause-broken
returns-then-not-points_to-2-clause-broken g c = λ _ list h.
    false≢true (c.if-not-points_to-2.ensures.1
    (walked_ends _ extent_address _ c.args.base.now _ _ _ c.loop-place.invariant.walked (omega
    (arith, c.loop-place.invariant.count)) list h).1)

pub returns-then-not-points_to-2-clause-bound : goal.returns-then-not-points_to-2-clause-bound
returns-then-not-points_to-2-clause-bound g c = omega (arith, c.loop-place.invariant.steps)

pub returns-clause-linked : goal.returns-clause-linked
returns-clause-linked g c =
    walked_linked _ extent_address _ c.args.base.now _ _ _ (extents_addressing
    (length c.args.nodes.now) c.requires) c.loop-place.invariant.walked (omega
    (arith, c.loop-place.invariant.count))
    (c.if-not-is_null.ensures.0 refl) (c.if-not-points_to-2.ensures.0 refl)

pub returns-clause-bound : goal.returns-clause-bound
returns-clause-bound g c = omega (arith, c.loop-place.invariant.steps)

pub returns-clause-followed : goal.returns-clause-followed
returns-clause-followed g c = omega (arith, c.loop-place.invariant.steps, c.loop-place.invariant.count)
