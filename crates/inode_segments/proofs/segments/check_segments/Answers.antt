use Rattle.std.proofs.Common.{◌≡◌, ◌↔◌, ◌<◌, ℕ, true, false, map, take, Contains, inl, inr, sym, subst, ◌∙◌, ap, arith}
use Rattle.std.proofs.lemmas.Bool.{false≢true, not-true, not-false}
use Rattle.std.specs.Ordering.{nat_cmp}
use Rattle.std.specs.BTreeSet.{contains}
use Rattle.inode_segments.specs.declared.inode.Inode.{Inode}
use Rattle.inode_segments.proofs.Kept.{segment_there, new_id, is_new, segment_breaks, segment_holds, ids_more, has_more}
use Rattle.inode_segments.proofs.segments.check_segments.Goals as goal
use Rattle.inode_segments.proofs.segments.check_segments.Goals.{then-inode-next-via-then-inode-next}
use Rattle.inode_segments.proofs.segments.check_segments.Goals.{then-inode-next-via-else-inode-next+in_ok-add_id+then-not-branch}

pub returns-then-inode-ne-MAGIC_NUMBER-clause-exact : goal.returns-then-inode-ne-MAGIC_NUMBER-clause-exact
returns-then-inode-ne-MAGIC_NUMBER-clause-exact c = λ file are head.
    let i = c.loop-i.i in
    let place = c.place-holder.result in
    let inode = c.inode-inode.result.now in
    let here = segment_there file c.args.inodes.now i place inode are c.place-holder.ensures c.inode-inode.ensures in
    rw c.into.ensures (segment_breaks file i place inode c.at.result here (c.loop-i.invariant.held file are head)
    (inl (λ magic. c.if-inode-ne-MAGIC_NUMBER.true (sym (ap (λ (y : Inode). y.magic) here.is) ∙ magic), c.at.ensures)))

-- the id is not new
seen : (c : goal.After-drop-ids-then-inode-next) → (c.inode-inode.result.now.id < c.args.next)
    × (¬ (Contains (map (λ (y : Inode). y.id) (take c.loop-i.i c.args.inodes.now.inodes))
    c.inode-inode.result.now.id)) → ⊥
seen c new = elim c.then-inode-next.branch [
  | then-inode-next-via-then-inode-next w ↦ absurd (omega (arith, w.if-inode-next.true, new.0))
  | then-inode-next-via-else-inode-next+in_ok-add_id+then-not-branch w ↦ new.1
      ((c.loop-i.invariant.ids c.inode-inode.result.now.id).0
      (not-false (contains nat_cmp c.loop-i.ids c.inode-inode.result.now.id) (sym w.in_ok-add_id.ensures.new
      ∙ w.if-not-branch.true)))
]

pub returns-then-inode-next-clause-exact : goal.returns-then-inode-next-clause-exact
returns-then-inode-next-clause-exact c = λ file are head.
    let i = c.loop-i.i in
    let place = c.place-holder.result in
    let inode = c.inode-inode.result.now in
    let here = segment_there file c.args.inodes.now i place inode are c.place-holder.ensures c.inode-inode.ensures in
    rw c.into-then-inode-next.ensures (segment_breaks file i place inode c.at-then-inode-next.result here
    (c.loop-i.invariant.held file are head)
    (inr (
      ap (λ (y : Inode). y.magic) here.is ∙ c.if-inode-ne-MAGIC_NUMBER.false,
      (
        λ new. seen c (is_new file c.args.inodes.now i c.args.next place inode are head here new),
        c.at-then-inode-next.ensures,
      ),
    )))

pub loop-i-preserved : goal.loop-i-preserved
loop-i-preserved c =
    let i = c.loop-i.i in
    let place = c.place-holder.result in
    let inode = c.inode-inode.result.now in
    let inodes = c.args.inodes.now.inodes in
    let unseen : contains nat_cmp c.loop-i.ids inode.id ≡ false =
    not-true (contains nat_cmp c.loop-i.ids inode.id) (sym c.in_ok-add_id.ensures.new ∙ c.if-not-branch.false) in
    record {
      held = λ file are head.
          let here = segment_there file c.args.inodes.now i place inode are c.place-holder.ensures
          c.inode-inode.ensures in
          segment_holds file i place inode here (c.loop-i.invariant.held file are head) (
            ap (λ (y : Inode). y.magic) here.is ∙ c.if-inode-ne-MAGIC_NUMBER.false,
            new_id file c.args.inodes.now i c.args.next place inode are head here (omega (arith, c.if-inode-next.false))
                (λ has. false≢true (sym unseen ∙ (c.loop-i.invariant.ids inode.id).1 has)),
          );
      ids = subst (λ ids. (x : ℕ) → contains nat_cmp c.add_id.new.ids x ≡ true ↔ Contains ids x)
          (sym (ids_more inodes i inode c.inode-inode.ensures))
          (has_more (contains nat_cmp c.loop-i.ids) (contains nat_cmp c.add_id.new.ids)
          (map (λ (y : Inode). y.id) (take i inodes)) inode.id c.in_ok-add_id.ensures.added c.loop-i.invariant.ids);
    }
