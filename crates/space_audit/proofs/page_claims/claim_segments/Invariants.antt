use Rattle.std.proofs.Common.{◌≡◌, ℕ, List, ◌++◌, take}
use Rattle.page_source.specs.Verdict.{AllBefore}
use Rattle.space_header.specs.Header.{size_of}
use Rattle.inode_segments.specs.Inodes.{segments}
use Rattle.space_audit.specs.Read.{IsRead}
use Rattle.space_audit.specs.Audit.{SlotsCheck}
use Rattle.space_audit.specs.Holders.{Claim, AreHeld, claims_from}
use Rattle.space_audit.proofs.page_claims.claim_segments.Given as goal

abbrev pub invariant-loop-s : goal.invariant-loop-s
invariant-loop-s l =
    record {
      checked : (file : List ℕ) → IsRead file l.extents l.inodes → l.size ≡ size_of file
          → AllBefore (segments file) (SlotsCheck file) l.s;
      held : (file : List ℕ) → IsRead file l.extents l.inodes → (claims : List Claim) → AreHeld l.fn.holders claims
          → AreHeld l.holders (claims ++ claims_from file 0 (take l.s (segments file)));
    }
