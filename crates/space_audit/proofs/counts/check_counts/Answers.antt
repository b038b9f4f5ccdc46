use Rattle.std.proofs.Common.{◌<◌, length, get_or, inl, inr, sym, ◌∙◌, ap, subst, arith}
use Rattle.page_source.specs.declared.rule.Rule.TheVariants.{UseCounts}
use Rattle.page_source.specs.declared.rule.Fault.{Fault}
use Rattle.space_header.specs.declared.address.Address.{Address}
use Rattle.space_header.specs.declared.header.SpaceHeader.{SpaceHeader}
use Rattle.space_audit.specs.Audit.{HasNotFullCount}
use Rattle.space_audit.proofs.ListSteps.{get_some}
use Rattle.space_audit.proofs.ClaimSteps.{segment_read}
use Rattle.space_audit.proofs.HomeSums.{fragment_sum, segment_sum, counts_more}
use Rattle.space_audit.proofs.counts.check_counts.Goals as goal

pub returns-then-header-used : goal.returns-then-header-used
returns-then-header-used c = λ file extents h are head.
    let sum = fragment_sum file extents c.args.inodes.now c.args.homes.now h are in
    let stated = ap (λ (x : SpaceHeader). x.frag_used) head in
    inl ((λ has. c.if-header-used.true (stated ∙ (has ∙ sym (c.used.ensures ∙ sum)))), c.at.ensures)

pub returns-then-inode-used : goal.returns-then-inode-used
returns-then-inode-used c = λ file extents h are head.
    let s = c.loop-s.s in
    let place = c.place.result in
    let sum = fragment_sum file extents c.args.inodes.now c.args.homes.now h are in
    let stated = ap (λ (x : SpaceHeader). x.frag_used) head in
    let is = segment_read file c.args.inodes.now s place c.inode.result.now h.inodes_are c.place.ensures
    c.inode.ensures in
    let here = segment_sum file c.used_pages_are_of_extents.ensures extents c.args.inodes.now c.args.homes.now
    s place c.inode.result.now h are is
    c.used-in-loop-s.result c.used-in-loop-s.ensures in
    inr (
      (sym stated ∙ (c.if-header-used.false
          ∙ (c.used.ensures ∙ sum))),
      (
        s,
        is.inside,
        c.loop-s.invariant file extents h are head,
        λ d. (
          (λ has. c.if-inode-used.true (here.0 (subst (λ p. HasNotFullCount file p) (is.place_is d) has))),
          c.at-then-inode-used.ensures
              ∙ ap (λ (p : Address). let f : Fault = record { rule = UseCounts; page = p.page } in f)
              (sym (is.place_is d)),
        ),
      ),
    )

pub loop-s-preserved : goal.loop-s-preserved
loop-s-preserved c = λ file extents h are head.
    let s = c.loop-s.s in
    let places = c.args.inodes.now.places in
    let none : Address = record { page = 0; offset = 0 } in
    let place = get_or places s none in
    let below : s < length places = omega (arith, c.loop-s-test.true, c.count-s-end.ensures.count) in
    let is = segment_read file c.args.inodes.now s place c.inode.result.now h.inodes_are
    (get_some places s none below) c.inode.ensures in
    let here = segment_sum file c.used_pages_are_of_extents.ensures extents c.args.inodes.now c.args.homes.now
    s place c.inode.result.now h are is
    c.used-in-loop-s.result c.used-in-loop-s.ensures in
    counts_more file s (c.loop-s.invariant file extents h are head)
    (λ d. subst (λ p. HasNotFullCount file p) (sym (is.place_is d)) (here.1 c.if-inode-used.false))

pub returns : goal.returns
returns c = λ file extents h are head.
    let sum = fragment_sum file extents c.args.inodes.now c.args.homes.now h are in
    let stated = ap (λ (x : SpaceHeader). x.frag_used) head in (
      sym stated ∙ (c.if-header-used.false ∙ (c.used.ensures ∙ sum)),
      λ j d l. c.loop-s.invariant file extents h are head j d
          (omega (arith, l, c.loop-s-test.false, c.count-s-end.ensures.count, ap length h.inodes_are.places)),
    )
