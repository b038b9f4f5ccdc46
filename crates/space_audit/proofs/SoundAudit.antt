-- The audit finds nothing exactly in a sound space.
use Rattle.std.proofs.Common.{◌≡◌, ℕ, ◌<◌, List, All, None}
use Rattle.page_source.specs.Lists.{times_in}
use Rattle.space_header.specs.Header.{limit_of}
use Rattle.extent_map.specs.Extents.{IsUsed, extent_count, is_fragment_page}
use Rattle.extent_map.specs.Laws.{HeadChecksAreSound, DescriptorChecksAreSound, UsedPagesAreOfExtents}
use Rattle.inode_segments.specs.Inodes.{segments, inode_of}
use Rattle.inode_segments.specs.InodeChecks.{AreInodes}
use Rattle.inode_segments.specs.Laws.{InodeChecksAreSound}
use Rattle.space_header.specs.declared.address.Node.{Node}
use Rattle.space_audit.specs.Lists.{HomeList, ListChecks, HomeListChecks, ThreeChecks, HoldThree, HasHome, free_list}
use Rattle.space_audit.specs.Lists.{free_frag_list, full_frag_list, segment_free_list, segment_not_full_list}
use Rattle.space_audit.specs.Lists.{segment_full_list}
use Rattle.extent_map.specs.Extents.{extent_nodes}
use Rattle.extent_map.proofs.Used.{used_below}
use Rattle.space_audit.specs.Owners.{IsPartition}
use Rattle.space_audit.specs.Laws.{UseClaims}
use Rattle.space_audit.specs.Audit.{UseChecks, OwnerChecks, AuditChecks, HasExtents, IsSlot, IsUsedFragment}
use Rattle.space_audit.specs.Audit.{HasFragmentCount, HasNotFullCount, fragment_claims, IsSoundSpace}
use Rattle.space_audit.proofs.Claims.{HasClaims, partition, fragment_once, used_within}
use Rattle.space_audit.proofs.OwnerFacts.{uses_are_claims}

-- the lists and the homes
three_sound : (nodes : List Node) (a b c : HomeList) → ThreeChecks nodes a b c None → HoldThree nodes a b c
unfolding HomeListChecks
three_sound nodes a b c h = (h.0.1, h.1.0.1, h.1.1.1)

three_checks : (nodes : List Node) (a b c : HomeList) → HoldThree nodes a b c → ThreeChecks nodes a b c None
unfolding HomeListChecks
three_checks nodes a b c h = (((h.0.0, h.0.1), h.0), (((h.1.0, h.1.1), h.1), ((h.2.0, h.2.1), h.2)))

space_lists_sound : (file : List ℕ) → ListChecks file None
    → HoldThree (extent_nodes file) (free_list file) (free_frag_list file) (full_frag_list file)
unfolding ListChecks
space_lists_sound file h = three_sound (extent_nodes file) (free_list file) (free_frag_list file)
    (full_frag_list file) h.0

segment_lists_sound : (file : List ℕ) → ListChecks file None
    → All (λ place. HoldThree (extent_nodes file) (segment_free_list file place) (segment_not_full_list file place)
    (segment_full_list file place)) (segments file)
unfolding ListChecks
segment_lists_sound file h = λ k d l. three_sound (extent_nodes file) _ _ _ (h.1.0 k d l)

pub homes_sound : (file : List ℕ) → ListChecks file None → (e : ℕ) → e < extent_count file → HasHome file e
unfolding ListChecks
homes_sound file h = h.1.1

list_checks : (file : List ℕ) → HoldThree (extent_nodes file) (free_list file) (free_frag_list file)
    (full_frag_list file)
    → All (λ place. HoldThree (extent_nodes file) (segment_free_list file place) (segment_not_full_list file place)
    (segment_full_list file place)) (segments file)
    → ((e : ℕ) → e < extent_count file → HasHome file e) → ListChecks file None
unfolding ListChecks
list_checks file a b c = (
  three_checks (extent_nodes file) (free_list file) (free_frag_list file) (full_frag_list file) a,
  (λ k d l. three_checks (extent_nodes file) _ _ _ (b k d l), c),
)

-- the slots, the counts and the claims
pub slots_sound : (file : List ℕ) → UseChecks file None
    → All (λ place. All (IsSlot file) (inode_of file place).slots) (segments file)
unfolding UseChecks
slots_sound file h = h.0

fragment_count_sound : (file : List ℕ) → UseChecks file None → HasFragmentCount file
unfolding UseChecks
fragment_count_sound file h = h.1.0.0

counts_sound : (file : List ℕ) → UseChecks file None → All (HasNotFullCount file) (segments file)
unfolding UseChecks
counts_sound file h = h.1.0.1

pub claims_sound : (file : List ℕ) → UseChecks file None → (n : ℕ) → n < limit_of file → IsUsedFragment file n
    → times_in (fragment_claims file) n ≡ 1
unfolding UseChecks
claims_sound file h = h.1.1

use_checks : (file : List ℕ) → All (λ place. All (IsSlot file) (inode_of file place).slots) (segments file)
    → HasFragmentCount file → All (HasNotFullCount file) (segments file)
    → ((n : ℕ) → n < limit_of file → IsUsedFragment file n → times_in (fragment_claims file) n ≡ 1)
    → UseChecks file None
unfolding UseChecks
use_checks file a b c d = (a, ((b, c), d))

-- the laws of the crates below
pub record HasLaws : Type 0 where
  pub head : HeadChecksAreSound
  pub descriptors : DescriptorChecksAreSound
  pub inodes : InodeChecksAreSound
  pub used_pages : UsedPagesAreOfExtents

-- what the checks of ownership leave known
pub record Owned (file : List ℕ) (flags : ℕ) : Type 0 where
  pub extents : HasExtents file flags
  pub inodes : AreInodes file (is_fragment_page file)
  pub lists : ListChecks file None
  pub uses : UseChecks file None

pub owned : HasLaws → (file : List ℕ) (flags : ℕ) → OwnerChecks file flags None → Owned file flags
unfolding OwnerChecks
owned laws file flags h =
    let head = (laws.head file flags).0 h.0 in
    let described = (laws.descriptors file).0 h.1.0 in
    record {
      extents = record { head = head; descriptors = described.pages; extents = described.extents };
      inodes = (laws.inodes file (is_fragment_page file) head.size.most).0 h.1.1.0;
      lists = h.1.1.1.0;
      uses = h.1.1.1.1;
    }

owner_checks : HasLaws → (file : List ℕ) (flags : ℕ) → HasExtents file flags
    → AreInodes file (is_fragment_page file) → ListChecks file None → UseChecks file None
    → OwnerChecks file flags None
unfolding OwnerChecks
owner_checks laws file flags e i l u = (
  (laws.head file flags).1 e.head,
  (
    (laws.descriptors file).1 (record { pages = e.descriptors; extents = e.extents }),
    ((laws.inodes file (is_fragment_page file) e.head.size.most).1 i, (l, u)),
  ),
)

pub has_claims : HasLaws → (file : List ℕ) (flags : ℕ) → Owned file flags → HasClaims file
has_claims laws file flags h = record {
  used_pages = laws.used_pages;
  whole = h.extents.head.limit.whole;
  extents = h.extents.extents;
  full = h.inodes.full.members;
  free = h.inodes.free.members;
  distinct = h.inodes.distinct;
  homes = homes_sound file h.lists;
  slots = slots_sound file h.uses;
}

pub claims_are_partition : HasLaws → (file : List ℕ) (flags : ℕ) → OwnerChecks file flags None
    → IsPartition file
claims_are_partition laws file flags h =
    let o = owned laws file flags h in
    partition file (has_claims laws file flags o) (claims_sound file o.uses)

pub owners_are_claims : HasLaws → (file : List ℕ) (flags : ℕ) → OwnerChecks file flags None → UseClaims file
owners_are_claims laws file flags h =
    let o = owned laws file flags h in
    uses_are_claims file (has_claims laws file flags o) (claims_sound file o.uses)

pub audit_sound : HasLaws → (file : List ℕ) (flags : ℕ) → AuditChecks file flags None
    → IsSoundSpace file flags
audit_sound laws file flags h =
    let o = owned laws file flags h.0 in
    record {
      extents = o.extents;
      inodes = o.inodes;
      owners = record {
        lists = space_lists_sound file o.lists;
        segment_lists = segment_lists_sound file o.lists;
        homes = homes_sound file o.lists;
        fragment_count = fragment_count_sound file o.uses;
        not_full_counts = counts_sound file o.uses;
        slots = slots_sound file o.uses;
        partition = claims_are_partition laws file flags h.0;
      };
      frames = record {
        framed = λ n u. (h.1 n (used_below file n u) u).0;
        kinds = λ n u. (h.1 n (used_below file n u) u).1;
      };
    }

pub audit_checks : HasLaws → (file : List ℕ) (flags : ℕ) → IsSoundSpace file flags
    → AuditChecks file flags None
audit_checks laws file flags h =
    let c : HasClaims file = record {
      used_pages = laws.used_pages;
      whole = h.extents.head.limit.whole;
      extents = h.extents.extents;
      full = h.inodes.full.members;
      free = h.inodes.free.members;
      distinct = h.inodes.distinct;
      homes = h.owners.homes;
      slots = h.owners.slots;
    } in
    let once = fragment_once file c (λ n u. h.owners.partition.once n (used_within file c n u) u) in (
      owner_checks laws file flags h.extents h.inodes (list_checks file h.owners.lists h.owners.segment_lists
          h.owners.homes)
          (use_checks file h.owners.slots h.owners.fragment_count h.owners.not_full_counts (λ n l u. once n u)),
      λ n l u. (h.frames.framed n u, h.frames.kinds n u),
    )
