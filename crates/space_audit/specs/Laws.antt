-- Laws of the definitions, each the contract of a function in a module of laws.
use Rattle.std.specs.Prelude.{◌≡◌, ℕ, ◌%◌, ◌<◌, ◌↔◌, List, map, All, None}
use Rattle.page_source.specs.Lists.{AreDistinct, times_in}
use Rattle.space_header.specs.Header.{limit_of}
use Rattle.extent_map.specs.Extents.{extent_count, is_fragment_page}
use Rattle.extent_map.specs.Descriptors.{IsExtent}
use Rattle.inode_segments.specs.Inodes.{inode_of, full_pages, free_pages, segments, segment_id}
use Rattle.inode_segments.specs.InodeChecks.{IsInodePage}
use Rattle.space_audit.specs.Lists.{HasHome}
use Rattle.space_audit.specs.Owners.{IsPartition, IsUsedBy, IsClaimedBy}
use Rattle.space_audit.specs.Audit.{OwnerChecks, AuditChecks, IsSlot, IsUsedFragment, fragment_claims, IsSoundSpace}

-- the audit finds nothing exactly in a sound space
abbrev pub AuditIsSoundness : Type 0
AuditIsSoundness = (file : List ℕ) (flags : ℕ) → AuditChecks file flags None ↔ IsSoundSpace file flags

-- where the checks of ownership hold, the claims are a partition
abbrev pub ClaimsArePartition : Type 0
ClaimsArePartition = (file : List ℕ) (flags : ℕ) → OwnerChecks file flags None → IsPartition file

-- a segment uses exactly the used pages that it claims, and a number that no segment has uses none
abbrev pub UseClaims : List ℕ → Type 0
UseClaims file = (n s : ℕ) → IsUsedBy file s n ↔ IsClaimedBy file s n

-- if the checks of ownership hold, each segment uses exactly the used pages that it claims
abbrev pub OwnersAreClaims : Type 0
OwnersAreClaims = (file : List ℕ) (flags : ℕ) → OwnerChecks file flags None → UseClaims file

-- the extents and inode pages are sound, each extent has one home, no two segments have one id, and each used page of a
-- fragment extent is claimed once
pub record AreFragmentsClaimed (file : List ℕ) : Type 0 where
  pub whole : limit_of file % 64 ≡ 0
  pub extents : (e : ℕ) → e < extent_count file → IsExtent file e
  pub full : All (IsInodePage file (is_fragment_page file)) (full_pages file)
  pub free : All (IsInodePage file (is_fragment_page file)) (free_pages file)
  pub distinct : AreDistinct (map (segment_id file) (segments file))
  pub homes : (e : ℕ) → e < extent_count file → HasHome file e
  pub slots : All (λ place. All (IsSlot file) (inode_of file place).slots) (segments file)
  pub once : (n : ℕ) → n < limit_of file → IsUsedFragment file n → times_in (fragment_claims file) n ≡ 1

-- all claims are a partition, and each segment uses exactly the used pages that it claims
pub record AreAllClaimed (file : List ℕ) : Type 0 where
  pub partition : IsPartition file
  pub uses : UseClaims file

-- if the claims on fragment pages are right, all claims are a partition, and each segment uses exactly the used pages
-- that it claims
abbrev pub FragmentClaimsAreEnough : Type 0
FragmentClaimsAreEnough = (file : List ℕ) → AreFragmentsClaimed file → AreAllClaimed file
