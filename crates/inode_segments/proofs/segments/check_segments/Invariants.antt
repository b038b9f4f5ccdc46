use Rattle.std.proofs.Common.{◌≡◌, ◌↔◌, ℕ, List, true, map, take, Contains}
use Rattle.std.specs.Ordering.{nat_cmp}
use Rattle.std.specs.BTreeSet.{contains}
use Rattle.page_source.specs.Verdict.{AllBefore}
use Rattle.space_header.specs.Header.{head_of}
use Rattle.inode_segments.specs.declared.inode.Inode.{Inode}
use Rattle.inode_segments.specs.Inodes.{segments}
use Rattle.inode_segments.specs.InodeChecks.{SegmentCheck}
use Rattle.inode_segments.specs.Kept.{AreKept}
use Rattle.inode_segments.proofs.segments.check_segments.Given as goal

abbrev pub invariant-loop-i : goal.invariant-loop-i
invariant-loop-i l = record {
  held : (file : List ℕ) → AreKept file l.inodes → (head_of file).next_segment ≡ l.next
      → AllBefore (segments file) (SegmentCheck file) l.i;
  ids : (x : ℕ) → contains nat_cmp l.ids x ≡ true ↔ Contains (map (λ (y : Inode). y.id) (take l.i l.inodes.inodes)) x;
}
