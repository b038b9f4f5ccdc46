use Rattle.std.proofs.Common.{◌≡◌, ◌+◌, ◌*◌, ◌<◌, ◌≤◌, length, take, None, ◌∙◌, subst, arith}
use Rattle.std.proofs.lemmas.Result.{err_from_is_err_and}
use Rattle.page_source.specs.Verdict.{AllBefore}
use Rattle.inode_segments.specs.Inodes.{segments}
use Rattle.space_audit.specs.Lists.{SegmentListsCheck}
use Rattle.space_audit.proofs.AtHome.{homes_below, below_three, below_all}
use Rattle.space_audit.proofs.OwnerFacts.{get_at}
use Rattle.space_audit.proofs.ListSteps.{listed_first, listed_segment, first_stops, segment_stops, before_more}
use Rattle.space_audit.proofs.ListSteps.{homes_holds, homes_breaks, stops_map}
use Rattle.space_audit.proofs.lists.check_lists.Goals as goal

pub returns-in_err-check_three-clause-exact : goal.returns-in_err-check_three-clause-exact
returns-in_err-check_three-clause-exact g c = λ file h.
    let r = err_from_is_err_and c.from_residual.result c.from_residual.ensures.1 in
    rw (r.1, r.2) (first_stops file c.in_err-check_three.field-0.0 (stops_map c.in_err-check_three.field-0.0 _ _
    (listed_first file c.args.header.now c.args.inodes.now c.args.nodes.now c.args.homes.now.numbers h)
    c.in_err-check_three.ensures.exact))

pub returns-in_err-check_three-clause-bound : goal.returns-in_err-check_three-clause-bound
returns-in_err-check_three-clause-bound g c =
    let homes = c.args.homes.now.numbers in
    omega (arith, c.in_err-check_three.ensures.bound, below_three homes 0, below_all homes 3, c.requires.same)

pub loop-s-init : goal.loop-s-init
loop-s-init g c = record {
  held = λ file h j d l. absurd (omega (arith, l));
  spent = omega (arith, c.in_ok-check_three.ensures.followed, below_three c.args.homes.now.numbers 0);
  onward = c.in_ok-check_three.ensures.onward;
}

pub returns-in_err-check_three-2-clause-bound : goal.returns-in_err-check_three-2-clause-bound
returns-in_err-check_three-2-clause-bound g c =
    let homes = c.args.homes.now.numbers in
    let h = 3 + 3 * c.loop-s.s in
    omega (
      arith,
      c.in_err-check_three-2.ensures.bound,
      c.loop-s.invariant.spent,
      below_three homes h,
      below_all homes (h + 3),
      c.requires.same,
    )

pub returns-in_err-check_three-2-clause-exact : goal.returns-in_err-check_three-2-clause-exact
returns-in_err-check_three-2-clause-exact g c = λ file h.
    let header = c.args.header.now in
    let inodes = c.args.inodes.now in
    let nodes = c.args.nodes.now in
    let homes = c.args.homes.now.numbers in
    let s = c.loop-s.s in
    let stop = c.in_err-check_three-2.field-0.0 in
    let r = err_from_is_err_and c.from_residual-in_err-check_three-2.result
    c.from_residual-in_err-check_three-2.ensures.1 in
    let inside = (get_at inodes.places s c.place.result c.place.ensures).0 in
    rw (r.1, r.2) (segment_stops file s stop
    (listed_first file header inodes nodes homes h None c.in_ok-check_three.ensures.exact)
    (subst (λ xs. s < length xs) h.inodes_are.places inside) (c.loop-s.invariant.held file h)
    (λ d. stops_map stop _ _
    (λ v x. listed_segment file c.used_pages_are_of_extents.ensures header inodes nodes homes h s
    c.place.result c.inode-inode.result.now
    (take s (segments file)) c.place.ensures c.inode-inode.ensures v x d)
    c.in_err-check_three-2.ensures.exact))

pub loop-s-preserved : goal.loop-s-preserved
loop-s-preserved g c = record {
  onward = omega (arith, c.in_ok-check_three-2.ensures.onward, c.loop-s.invariant.onward);
  spent =
      let homes = c.args.homes.now.numbers in
      let h = 3 + 3 * c.loop-s.s in
      let e : h + 3 ≡ 3 + 3 * (c.loop-s.s + 1) = omega arith in
      subst (λ k. c.check_three-in-loop-s.new.steps ≤ c.args.steps.now + homes_below homes k) e
      (omega (arith, c.in_ok-check_three-2.ensures.followed, c.loop-s.invariant.spent, below_three homes h));
  held = λ file h.
      before_more file c.loop-s.s (c.loop-s.invariant.held file h)
      (listed_segment file c.used_pages_are_of_extents.ensures c.args.header.now c.args.inodes.now c.args.nodes.now
      c.args.homes.now.numbers h c.loop-s.s
      c.place.result c.inode-inode.result.now (take c.loop-s.s (segments file)) c.place.ensures c.inode-inode.ensures
      None c.in_ok-check_three-2.ensures.exact);
}

pub returns-in_err-check_homes-clause-bound : goal.returns-in_err-check_homes-clause-bound
returns-in_err-check_homes-clause-bound g c =
    omega (arith, c.loop-s.invariant.spent, below_all c.args.homes.now.numbers (3 + 3 * c.loop-s.s), c.requires.same)

pub returns-clause-bound : goal.returns-clause-bound
returns-clause-bound g c =
    omega (arith, c.loop-s.invariant.spent, below_all c.args.homes.now.numbers (3 + 3 * c.loop-s.s), c.requires.same)

pub returns-in_err-check_homes-clause-exact : goal.returns-in_err-check_homes-clause-exact
returns-in_err-check_homes-clause-exact g c = λ file h.
    let homes = c.args.homes.now.numbers in
    let r = err_from_is_err_and c.from_residual-in_err-check_homes.result
    c.from_residual-in_err-check_homes.ensures.1 in
    let places = length c.args.inodes.now.places in
    let done : c.loop-s.s ≡ places = omega (
      arith,
      c.loop-s-test.false,
      c.loop-s.auto.s-end,
      c.count-s-end.ensures.count,
    ) in
    rw (r.1, r.2) (homes_breaks file c.args.header.now c.args.inodes.now c.args.nodes.now homes h
    (listed_first file c.args.header.now c.args.inodes.now c.args.nodes.now homes h None
    c.in_ok-check_three.ensures.exact)
    (subst (λ n. AllBefore (segments file) (SegmentListsCheck file) n) done (c.loop-s.invariant.held file h))
    c.numbers.result.now c.lists.result c.in_err-check_homes.field-0.0 c.numbers.ensures.same
    (c.lists.ensures ∙ c.requires.lists) c.in_err-check_homes.ensures)

pub returns-clause-exact : goal.returns-clause-exact
returns-clause-exact g c = λ file h.
    let homes = c.args.homes.now.numbers in
    let places = length c.args.inodes.now.places in
    let done : c.loop-s.s ≡ places = omega (
      arith,
      c.loop-s-test.false,
      c.loop-s.auto.s-end,
      c.count-s-end.ensures.count,
    ) in
    homes_holds file c.args.header.now c.args.inodes.now c.args.nodes.now homes h
    (listed_first file c.args.header.now c.args.inodes.now c.args.nodes.now homes h None
    c.in_ok-check_three.ensures.exact)
    (subst (λ n. AllBefore (segments file) (SegmentListsCheck file) n) done (c.loop-s.invariant.held file h))
    c.numbers.result.now c.lists.result c.numbers.ensures.same (c.lists.ensures ∙ c.requires.lists)
    c.in_ok-check_homes.ensures
