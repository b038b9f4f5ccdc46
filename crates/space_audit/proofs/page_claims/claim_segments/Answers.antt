use Rattle.std.proofs.Common.{◌≡◌, ℕ, ◌+◌, ◌<◌, ◌≤◌, List, ◌++◌, length, take, Some, None, sym, ◌∙◌, ap, subst, arith}
use Rattle.std.proofs.lemmas.Result.{err_from_is_err_and}
use Rattle.inode_segments.specs.Inodes.{segments, inode_pages}
use Rattle.space_audit.specs.Holders.{AreHeld, claims_from, inode_claims}
use Rattle.space_audit.proofs.ClaimSteps.{segment_read, slots_checked, segments_more, segment_claims, first_held}
use Rattle.space_audit.proofs.ClaimSteps.{claims_all}
use Rattle.space_audit.proofs.page_claims.claim_segments.Goals as goal

pub returns-in_err-claim_slots-clause-exact : goal.returns-in_err-claim_slots-clause-exact
returns-in_err-claim_slots-clause-exact c = λ file h size.
    let s = c.loop-s.s in
    let r = err_from_is_err_and c.from_residual.result c.from_residual.ensures.1 in
    let is = segment_read file c.args.inodes.now s c.place.result c.inode.result.now h.inodes_are c.place.ensures
    c.inode.ensures in
    rw (r.1, r.2) (
      s,
      is.inside,
      c.loop-s.invariant.checked file h size,
      slots_checked file s c.place.result c.inode.result.now (take s (segments file)) is (Some _)
          (c.in_err-claim_slots.ensures.exact file h.extents_are size),
    )

pub loop-s-preserved : goal.loop-s-preserved
loop-s-preserved c = record {
  checked = λ file h size.
      let s = c.loop-s.s in
      let is = segment_read file c.args.inodes.now s c.place.result c.inode.result.now h.inodes_are c.place.ensures
      c.inode.ensures in
      segments_more file s (c.loop-s.invariant.checked file h size)
      (slots_checked file s c.place.result c.inode.result.now (take s (segments file)) is None
      (c.in_ok-claim_slots.ensures.exact file h.extents_are size));
  held = λ file h claims a.
      let s = c.loop-s.s in
      let is = segment_read file c.args.inodes.now s c.place.result c.inode.result.now h.inodes_are c.place.ensures
      c.inode.ensures in
      subst (λ xs. AreHeld c.claim_slots.new.holders xs) (segment_claims file s c.place.result c.inode.result.now
      claims is)
      (c.in_ok-claim_slots.ensures.held (claims ++ claims_from file 0 (take s (segments file)))
      (c.loop-s.invariant.held file h claims a));
}

pub returns-clause-held : goal.returns-clause-held
returns-clause-held c = λ file h same.
    let all : length (segments file) ≤ c.loop-s.s =
    omega (arith, c.loop-s-test.false, c.count-s-end.ensures.count, ap length h.inodes_are.places) in
    claims_all file c.loop-s.s c.loop-s.holders all
    (c.loop-s.invariant.held file h (inode_claims (inode_pages file))
    (first_held file c.args.inodes.now c.args.size c.args.holders.now h.inodes_are h.inodes_sound same))
