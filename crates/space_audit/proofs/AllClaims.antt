-- Where the claims on fragment pages are right, so are all claims.
use Rattle.std.proofs.Common.{List, ℕ}
use Rattle.extent_map.specs.Laws.{UsedPagesAreOfExtents}
use Rattle.space_audit.specs.Laws.{AreFragmentsClaimed, FragmentClaimsAreEnough}
use Rattle.space_audit.proofs.Claims.{HasClaims, partition}
use Rattle.space_audit.proofs.OwnerFacts.{uses_are_claims}

has_claims : UsedPagesAreOfExtents → (file : List ℕ) → AreFragmentsClaimed file → HasClaims file
has_claims used file known = record {
  used_pages = used;
  whole = known.whole;
  extents = known.extents;
  full = known.full;
  free = known.free;
  distinct = known.distinct;
  homes = known.homes;
  slots = known.slots;
}

pub all_claimed : UsedPagesAreOfExtents → FragmentClaimsAreEnough
all_claimed used file known =
    let claims = has_claims used file known in record {
      partition = partition file claims known.once;
      uses = uses_are_claims file claims known.once;
    }
