use Rattle.std.proofs.Common.{◌≡◌, ℕ, List, ◌<◌, ◌≤◌, get_or, length}
use Rattle.inode_segments.specs.Kept.{InodesView}
use Rattle.space_audit.specs.Owners.{owner_by, owner_of}
use Rattle.space_audit.specs.Holders.{AreHeld, claims_in}
use Rattle.space_audit.specs.Read.{IsOwned}
use Rattle.space_audit.proofs.page_owners.settle_owners.Given as goal

abbrev pub invariant-loop-n : goal.invariant-loop-n
invariant-loop-n l = record {
  later : (k : ℕ) → l.n ≤ k → get_or l.holders k 0 ≡ get_or l.fn.holders k 0;
  settled : (file : List ℕ) (inodes : InodesView) → IsOwned file l.extents inodes l.homes
      → AreHeld l.fn.holders (claims_in file)
      → (k : ℕ) → k < l.n → owner_by (get_or l.holders k 0) ≡ owner_of file k;
}
