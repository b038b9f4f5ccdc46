-- What claims each page, and who owns it (fsp0fsp).
use Rattle.std.specs.Prelude.{◌≡◌, ℕ, ◌-◌, ◌/◌, ◌<◌, ◌≤◌, ⊤, ◌==◌, nat_lt, if◌then◌else◌, List, length, slice_index}
use Rattle.std.specs.Prelude.{Bool, ◌++◌, filter, flat_map, All, Contains, slice_get, Some}
use Rattle.std.specs.List.{range_with_len, list_any, position_or_len}
use Rattle.page_source.specs.Lists.{times_in}
use Rattle.space_header.specs.declared.address.Address.{Address}
use Rattle.space_header.specs.Header.{size_of, limit_of}
use Rattle.extent_map.specs.Extents.{extent_of, extent_state, is_used, IsUsed, used_in, is_system_page}
use Rattle.inode_segments.specs.Inodes.{inode_pages, segments, segment_id, slot_pages}
use Rattle.space_audit.specs.declared.owner.Owner.{Owner}
use Rattle.space_audit.specs.declared.owner.Owner.TheVariants.{System, InodePage, Used, Spare, FragmentFree, FreeExtent}
use Rattle.space_audit.specs.declared.owner.Owner.TheVariants.{Beyond}
use Rattle.space_audit.specs.Lists.{segment_extents}

-- the system pages below the free limit
unfoldable pub system_pages : List ℕ → List ℕ
system_pages file = filter is_system_page (range_with_len 0 (limit_of file))

-- what a segment claims: the pages in its slots, and the used pages of its extents
unfoldable pub claim_of : List ℕ → Address → List ℕ
claim_of file place = slot_pages file place ++ flat_map (used_in file) (segment_extents file place)

-- all claims
unfoldable pub claims : List ℕ → List ℕ
claims file = system_pages file ++ inode_pages file ++ flat_map (claim_of file) (segments file)

-- every used page is claimed once, and every claimed page is a used one
pub record IsPartition (file : List ℕ) : Type 0 where
  pub once : (n : ℕ) → n < size_of file → IsUsed file n → times_in (claims file) n ≡ 1
  pub used : All (λ n. (n < size_of file) × IsUsed file n) (claims file)

-- the segment with this id, and the one with this page in a slot, by position
abbrev pub segment_with_id : List ℕ → ℕ → ℕ
segment_with_id file id = position_or_len (λ place. segment_id file place == id) (segments file)

abbrev pub segment_with_slot : List ℕ → ℕ → ℕ
segment_with_slot file n = position_or_len (λ place. list_any (λ slot. slot == n) (slot_pages file place))
    (segments file)

-- the owner of a page in an extent of a segment, and of one in a fragment extent
abbrev pub owner_in_segment : List ℕ → ℕ → Owner
owner_in_segment file n =
    if is_used file n
    then Used (segment_with_id file (extent_of file (n / 64)).id)
    else Spare (segment_with_id file (extent_of file (n / 64)).id)

abbrev pub owner_in_fragment : List ℕ → ℕ → Owner
owner_in_fragment file n =
    if is_used file n then (if is_system_page n then System else
    (if list_any (λ m. m == n) (inode_pages file) then InodePage else Used (segment_with_slot file n)))
    else FragmentFree

-- the owner of a page
unfoldable pub owner_of : List ℕ → ℕ → Owner
owner_of file n =
    if nat_lt n (limit_of file)
    then (if extent_state file (n / 64) == 1 then FreeExtent
    else (if extent_state file (n / 64) == 4 then owner_in_segment file n else owner_in_fragment file n))
    else Beyond

-- the segment uses the page
abbrev pub IsUsedBy : List ℕ → ℕ → ℕ → Type 0
IsUsedBy file segment n = owner_of file n ≡ Used segment

-- there is a segment with this number, it claims the page, and the page is used
pub record IsClaimedBy (file : List ℕ) (segment n : ℕ) : Type 0 where
  pub place : Address
  pub there : slice_get (segments file) segment ≡ Some place
  pub claimed : Contains (claim_of file place) n
  pub used : IsUsed file n

-- the number of the owner's segment, if it has one, is that of a segment of some tablespace
abbrev pub IsSmall : Owner → Type 0
IsSmall (Used segment) = segment ≤ 356515840
IsSmall (Spare segment) = segment ≤ 356515840
IsSmall _ = ⊤

-- the owner that a number stands for
unfoldable pub owner_by : ℕ → Owner
owner_by number =
    if number == 0xFFFF_FFFF then System else
    (if number == 0xFFFF_FFFE then InodePage else
    (if number == 0xFFFF_FFFD then FragmentFree else
    (if number == 0xFFFF_FFFC then FreeExtent else
    (if number == 0xFFFF_FFFB then Beyond else
    (if nat_lt number 0x8000_0000 then Used number else Spare (number - 0x8000_0000))))))

-- the owner of a page of a fragment extent, by its holder
abbrev pub owner_by_holder : ℕ → ℕ → Bool → Owner
owner_by_holder n holder used =
    if used then (if is_system_page n then System else (if holder == 0xFFFF_FFFF then InodePage else Used holder))
    else FragmentFree

-- the owner of a page of an extent of a segment, by the number of the extent's home
abbrev pub owner_at_home : ℕ → Bool → Owner
owner_at_home home used = if used then Used ((home - 3) / 3) else Spare ((home - 3) / 3)

-- these numbers stand for the owners of the pages
abbrev pub AreOwners : List ℕ → List ℕ → Type 0
AreOwners file numbers = (n : ℕ) → n < length numbers → owner_by (slice_index numbers n) ≡ owner_of file n
