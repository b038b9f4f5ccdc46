-- What is known of an audited space.
use Rattle.std.specs.Prelude.{◌≡◌, ℕ, ◌+◌, ◌*◌, ◌<◌, ◌≤◌, ◌==◌, Bool, ◌&&◌, List, length, map, filter, slice_index}
use Rattle.std.specs.Prelude.{Option, Some, None}
use Rattle.std.specs.List.{range_with_len, position_or_len}
use Rattle.page_source.specs.Pages.{page_of, page_count}
use Rattle.fil_frame.specs.Frame.{kind_of, space_of}
use Rattle.space_header.specs.declared.address.Address.{Address}
use Rattle.space_header.specs.Header.{size_of}
use Rattle.extent_map.specs.Extents.{is_used, IsUsed}
use Rattle.inode_segments.specs.Inodes.{segments}
use Rattle.space_audit.specs.declared.owner.Owner.{Owner}
use Rattle.space_audit.specs.Owners.{owner_of, IsUsedBy}
use Rattle.space_audit.specs.Audit.{AuditChecks}

-- a space: its size in pages and its id, the owners and types of its pages, how many are used, and its segments
pub record SpaceView : Type 0 where
  pub size : ℕ
  pub id : ℕ
  pub owners : List Owner
  pub kinds : List ℕ
  pub used : ℕ
  pub segments : List Address

-- what is known of a space is that of the file, whose audit found nothing; only a used page has a type
pub record IsAuditOf (file : List ℕ) (space : SpaceView) : Type 0 where
  pub flags : ℕ
  pub sound : AuditChecks file flags None
  pub has_size : space.size ≡ size_of file
  pub has_id : space.id ≡ space_of (page_of file 0)
  pub has_owners : space.owners ≡ map (owner_of file) (range_with_len 0 (size_of file))
  pub has_kinds : (n : ℕ) → IsUsed file n → slice_index space.kinds n ≡ kind_of (page_of file n)
  pub has_used : space.used ≡ length (filter (is_used file) (range_with_len 0 (size_of file)))
  pub has_segments : space.segments ≡ segments file

-- a number of pages that an audit found to be the size of the file
pub record HasAuditedSize (file : List ℕ) (size : ℕ) : Type 0 where
  pub stated : size ≡ size_of file
  pub most : size ≤ 4194304
  pub within : size ≤ page_count file

-- a page below the size, used by this segment, of this type
pub record IsPageOf (file : List ℕ) (segment kind n : ℕ) : Type 0 where
  pub below : n < size_of file
  pub used : IsUsedBy file segment n
  pub has_kind : kind_of (page_of file n) ≡ kind

-- an address is this one
abbrev pub is_address : Address → Address → Bool
is_address a b = (a.page == b.page) && (a.offset == b.offset)

-- the first segment with this address, by position; that of all segments where none has it
abbrev pub segment_with_address : List Address → Address → ℕ
segment_with_address segments address = position_or_len (is_address address) segments

-- a search found the segment with this address, or found that none has it
abbrev pub FindsSegment : List Address → Address → Option ℕ → Type 0
FindsSegment segments address None = segment_with_address segments address ≡ length segments
FindsSegment segments address (Some segment) =
    (segment < length segments) × (segment_with_address segments address ≡ segment)

-- an address as a number, where the offset is below 65,536
abbrev pub address_key : Address → ℕ
address_key address = 65536 * address.page + address.offset

-- the offset is one of 2 bytes
abbrev pub HasSmallOffset : Address → Type 0
HasSmallOffset address = address.offset < 65536
