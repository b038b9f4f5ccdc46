use Rattle.std.proofs.Common.{◌≡◌, ℕ, List, ◌++◌, take}
use Rattle.page_source.specs.Verdict.{AllBefore}
use Rattle.space_header.specs.Header.{size_of}
use Rattle.extent_map.specs.Extents.{AreExtents}
use Rattle.space_audit.specs.Audit.{SlotCheck}
use Rattle.space_audit.specs.Holders.{Claim, AreHeld, claims_of}
use Rattle.space_audit.proofs.page_claims.claim_slots.Given as goal

abbrev pub invariant-loop-slot : goal.invariant-loop-slot
invariant-loop-slot l =
    record {
      checked : (file : List ℕ) → AreExtents file l.extents → l.size ≡ size_of file
          → AllBefore l.slots (SlotCheck file l.place) l.slot-index;
      held : (claims : List Claim) → AreHeld l.fn.holders claims
          → AreHeld l.holders (claims ++ claims_of l.who (take l.slot-index l.slots));
    }
