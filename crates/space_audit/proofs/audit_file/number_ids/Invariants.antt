use Rattle.std.proofs.Common.{◌≡◌, length, map, take}
use Rattle.inode_segments.specs.declared.inode.Inode.{Inode}
use Rattle.space_audit.proofs.audit_file.number_ids.Given as goal

abbrev pub invariant-loop-s : goal.invariant-loop-s
invariant-loop-s l = record {
  ids : l.ids ≡ map (λ (inode : Inode). inode.id) (take l.s l.inodes.inodes);
  count : length l.ids ≡ l.s;
}
