use Rattle.std.proofs.Common.{◌≡◌, ◌+◌, ◌++◌, ◌∷◌, [], length, map, take, length-append, sym, ◌∙◌, ap, arith}
use Rattle.inode_segments.specs.declared.inode.Inode.{Inode}
use Rattle.space_audit.proofs.OwnerFacts.{get_at}
use Rattle.space_audit.proofs.AuditStages.{ids_more}
use Rattle.space_audit.proofs.audit_file.number_ids.Goals as goal

pub loop-s-preserved : goal.loop-s-preserved
loop-s-preserved c =
    let inode = c.inode.result.now in
    let at = get_at c.args.inodes.now.inodes c.loop-s.s inode c.inode.ensures in
    record {
      ids = c.in_ok-push.ensures ∙ (ap (λ xs. xs ++ inode.id ∷ []) c.loop-s.invariant.ids
          ∙ ids_more c.args.inodes.now.inodes c.loop-s.s inode at.0 (at.1 inode));
      count = ap length c.in_ok-push.ensures
          ∙ (length-append c.loop-s.ids (inode.id ∷ []) ∙ ap (λ k. k + 1) c.loop-s.invariant.count);
    }
