-- The checks of the whole space: head, descriptors, inodes, lists, use and frames.
use Rattle.std.specs.Prelude.{◌≡◌, ◌≢◌, ℕ, ◌+◌, ◌*◌, ◌/◌, ◌%◌, ◌<◌, ◌⊎◌, ⊤, true, ◌==◌, if◌then◌else◌, List, ◌++◌}
use Rattle.std.specs.Prelude.{flat_map, sum_by, All, Option}
use Rattle.page_source.specs.declared.rule.Rule.TheVariants.{FragmentSlot, UseCounts, PageOwner, Frame, PageKind}
use Rattle.page_source.specs.declared.rule.Fault.{Fault}
use Rattle.page_source.specs.Pages.{page_of, fil_null}
use Rattle.page_source.specs.Lists.{times_in}
use Rattle.page_source.specs.Verdict.{Then, Where, Each, EachOf}
use Rattle.page_source.specs.Answers.{Holds}
use Rattle.fil_frame.specs.Kinds.{allocated_kind, inode_kind, bitmap_kind, header_kind, descriptor_kind, blob_kind}
use Rattle.fil_frame.specs.Kinds.{index_kind}
use Rattle.fil_frame.specs.Frame.{Framed, kind_of}
use Rattle.space_header.specs.declared.address.Address.{Address}
use Rattle.space_header.specs.Header.{head_of, size_of, limit_of}
use Rattle.extent_map.specs.Head.{HeadChecks, IsHead}
use Rattle.extent_map.specs.Extents.{extent_count, IsUsed, is_fragment_extent, is_fragment_page, used_count}
use Rattle.extent_map.specs.Descriptors.{AllDescriptorChecks, IsDescriptorPage, descriptor_pages, IsExtent}
use Rattle.inode_segments.specs.Inodes.{segments, inode_of, inode_pages, slot_pages}
use Rattle.inode_segments.specs.InodeChecks.{AllInodeChecks, AreInodes}
use Rattle.space_audit.specs.declared.owner.Owner.{Owner}
use Rattle.space_audit.specs.declared.owner.Owner.TheVariants as owners
use Rattle.space_audit.specs.Lists.{ListChecks, free_list, free_frag_list, full_frag_list, segment_free_list}
use Rattle.space_audit.specs.Lists.{segment_not_full_list, segment_full_list, extents_in_state, not_full_extents}
use Rattle.space_audit.specs.Lists.{HoldThree, HasHome}
use Rattle.extent_map.specs.Extents.{extent_nodes}
use Rattle.space_audit.specs.Owners.{system_pages, owner_of, IsPartition}

-- a page below the size is a used one of a fragment extent
pub record IsFragmentUse (file : List ℕ) (n : ℕ) : Type 0 where
  pub below : n < size_of file
  pub used : IsUsed file n
  pub fragment : is_fragment_extent file (n / 64) ≡ true

-- a slot is empty, or has a used page of a fragment extent, below the size
abbrev pub IsSlot : List ℕ → ℕ → Type 0
IsSlot file slot = slot ≢ fil_null → IsFragmentUse file slot

-- the counts of used pages are right: on page 0, and in an inode
abbrev pub HasFragmentCount : List ℕ → Type 0
HasFragmentCount file = (head_of file).frag_used ≡ sum_by (used_count file) (extents_in_state file 2)

abbrev pub HasNotFullCount : List ℕ → Address → Type 0
HasNotFullCount file place =
    (inode_of file place).not_full_used ≡ sum_by (used_count file) (not_full_extents file place)

-- the claims on pages of fragment extents
unfoldable pub fragment_claims : List ℕ → List ℕ
fragment_claims file = system_pages file ++ inode_pages file ++ flat_map (slot_pages file) (segments file)

-- the checks of a slot, of all slots of a segment, and of a segment's count
abbrev pub SlotCheck : List ℕ → Address → List ℕ → ℕ → Option Fault → Type 0
SlotCheck file place before slot = Holds FragmentSlot place.page (IsSlot file slot)

abbrev pub SlotsCheck : List ℕ → List Address → Address → Option Fault → Type 0
SlotsCheck file before place = EachOf (inode_of file place).slots (SlotCheck file place)

abbrev pub CountCheck : List ℕ → List Address → Address → Option Fault → Type 0
CountCheck file before place = Holds UseCounts place.page (HasNotFullCount file place)

-- a page is a used one of a fragment extent
abbrev pub IsUsedFragment : List ℕ → ℕ → Type 0
IsUsedFragment file n = IsUsed file n × (is_fragment_extent file (n / 64) ≡ true)

-- the check that a used page of a fragment extent is claimed once
abbrev pub ClaimCheck : List ℕ → ℕ → Option Fault → Type 0
ClaimCheck file n = Where (IsUsedFragment file n) (Holds PageOwner n (times_in (fragment_claims file) n ≡ 1))

-- the checks of all counts
abbrev pub CountChecks : List ℕ → Option Fault → Type 0
CountChecks file = Then (Holds UseCounts 0 (HasFragmentCount file)) (EachOf (segments file) (CountCheck file))

-- the checks of all slots, of all counts, and of the claims on fragment pages
unfoldable pub UseChecks : List ℕ → Option Fault → Type 0
UseChecks file =
    Then (EachOf (segments file) (SlotsCheck file))
    (Then (CountChecks file)
    (Each (limit_of file) (ClaimCheck file)))

-- the type of a system page
abbrev pub system_kind : ℕ → ℕ
system_kind n = if n == 0 then header_kind else (if n % 16384 == 0 then descriptor_kind else bitmap_kind)

-- the types that a page may have, by its owner
abbrev pub IsKindFor : ℕ → Owner → ℕ → Type 0
IsKindFor n owners.System kind = kind ≡ system_kind n
IsKindFor n owners.InodePage kind = kind ≡ inode_kind
IsKindFor n (owners.Used segment) kind = (kind ≡ allocated_kind) ⊎ (kind ≡ blob_kind) ⊎ (kind ≡ index_kind)
IsKindFor n _ kind = ⊤

-- a page of a file has a type that its owner may have
abbrev pub HasAllowedKind : List ℕ → ℕ → Type 0
HasAllowedKind file n = IsKindFor n (owner_of file n) (kind_of (page_of file n))

-- the checks of a used page's frame and type
abbrev pub PageChecks : List ℕ → ℕ → Option Fault → Type 0
PageChecks file n = Then (Holds Frame n (Framed file n)) (Holds PageKind n (HasAllowedKind file n))

-- the checks of a page's frame and type, which are made of a used page alone
abbrev pub FrameCheck : List ℕ → ℕ → Option Fault → Type 0
FrameCheck file n = Where (IsUsed file n) (PageChecks file n)

-- the checks of the frames and types of all used pages
abbrev pub FrameChecks : List ℕ → Option Fault → Type 0
FrameChecks file = Each (limit_of file) (FrameCheck file)

-- all checks of the audit but those of the frames
unfoldable pub OwnerChecks : List ℕ → ℕ → Option Fault → Type 0
OwnerChecks file flags =
    Then (HeadChecks file flags)
    (Then (AllDescriptorChecks file)
    (Then (AllInodeChecks file (is_fragment_page file))
    (Then (ListChecks file)
    (UseChecks file))))

-- the whole audit
abbrev pub AuditChecks : List ℕ → ℕ → Option Fault → Type 0
AuditChecks file flags = Then (OwnerChecks file flags) (FrameChecks file)

-- the checks of the audit that come behind the head, by parts: behind the inodes, the ownership of all pages and the
-- frames
abbrev pub OwnershipChecks : List ℕ → Option Fault → Type 0
OwnershipChecks file = Then (ListChecks file) (UseChecks file)

abbrev pub PagesChecks : List ℕ → Option Fault → Type 0
PagesChecks file = Then (OwnershipChecks file) (FrameChecks file)

abbrev pub SpaceChecks : List ℕ → Option Fault → Type 0
SpaceChecks file =
    Then (AllDescriptorChecks file)
    (Then (AllInodeChecks file (is_fragment_page file))
    (PagesChecks file))

-- the most steps that the audit of so many pages takes
abbrev pub audit_steps : ℕ → ℕ
audit_steps pages = pages + pages / 32 + pages / 16384 + 4

-- the most pages that the audit fetches if so many are used: these, page 0 once more, and the descriptor pages once
-- more
abbrev pub audit_fetches : ℕ → ℕ → ℕ
audit_fetches pages used = used + 1 + (pages / 16384 + 1)

-- the head, the descriptor pages and the extents are sound
pub record HasExtents (file : List ℕ) (flags : ℕ) : Type 0 where
  pub head : IsHead file flags
  pub descriptors : (k : ℕ) → 0 < k → k < descriptor_pages file → IsDescriptorPage file (16384 * k)
  pub extents : (e : ℕ) → e < extent_count file → IsExtent file e

-- each extent stands on its list, each count and slot is right, and each used page is claimed once
pub record HasOwners (file : List ℕ) : Type 0 where
  pub lists : HoldThree (extent_nodes file) (free_list file) (free_frag_list file) (full_frag_list file)
  pub segment_lists : All (λ place. HoldThree (extent_nodes file)
      (segment_free_list file place) (segment_not_full_list file place) (segment_full_list file place)) (segments file)
  pub homes : (e : ℕ) → e < extent_count file → HasHome file e
  pub fragment_count : HasFragmentCount file
  pub not_full_counts : All (HasNotFullCount file) (segments file)
  pub slots : All (λ place. All (IsSlot file) (inode_of file place).slots) (segments file)
  pub partition : IsPartition file

-- each used page is framed, and has a type that its owner may have
pub record HasFrames (file : List ℕ) : Type 0 where
  pub framed : (n : ℕ) → IsUsed file n → Framed file n
  pub kinds : (n : ℕ) → IsUsed file n → HasAllowedKind file n

-- the space is sound
pub record IsSoundSpace (file : List ℕ) (flags : ℕ) : Type 0 where
  pub extents : HasExtents file flags
  pub inodes : AreInodes file (is_fragment_page file)
  pub owners : HasOwners file
  pub frames : HasFrames file
