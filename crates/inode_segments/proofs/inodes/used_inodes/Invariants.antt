use Rattle.std.proofs.Common.{◌≡◌, ◌≤◌, length}
use Rattle.inode_segments.proofs.Used.{used_before}
use Rattle.inode_segments.proofs.inodes.used_inodes.Given as goal

abbrev pub invariant-loop-k : goal.invariant-loop-k
invariant-loop-k l = (l.count ≡ length (used_before l.page l.k)) × (l.count ≤ l.k)
