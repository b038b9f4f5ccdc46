-- A file that holds the pages of a built tablespace.
use Rattle.std.specs.Prelude.{◌≡◌, ℕ, ◌+◌, ◌<◌, ◌≤◌, ◌⊎◌, ◌↔◌, false, List, length, filter, sum}
use Rattle.std.specs.List.{range_with_len}
use Rattle.page_source.specs.Pages.{page_of, page_count}
use Rattle.fil_frame.specs.Kinds.{header_kind, bitmap_kind, inode_kind, blob_kind, index_kind}
use Rattle.fil_frame.specs.Frame.{IsFramed, kind_of, space_of}
use Rattle.space_header.specs.Header.{head_of, size_of}
use Rattle.extent_map.specs.Extents.{extent_of, is_used, IsUsed}
use Rattle.inode_segments.specs.Inodes.{inode_of, is_used_place, page_node, segments, segment_count}
use Rattle.space_audit.specs.Owners.{IsUsedBy}
use Rattle.space_audit.specs.Space.{segment_with_address, IsPageOf}
use Rattle.space_layout.specs.Numbers.{size_at, extents_of, fragment_extents, extent_start, space_pages, segment_page}
use Rattle.space_layout.specs.Numbers.{IsPlace}
use Rattle.space_layout.specs.Fields.{header, fragment_descriptor, own_descriptor, inode, inode_place, lone_node}

-- page n of the file is framed as that of space 1, and has this type
pub record IsPage (file : List ℕ) (n kind : ℕ) : Type 0 where
  pub framed : IsFramed (page_of file n) n 1
  pub has_kind : kind_of (page_of file n) ≡ kind

-- page n of the file has the type of a page of an index, or of a long value
abbrev pub IsSegmentPage : List ℕ → ℕ → Type 0
IsSegmentPage file n = IsPage file n index_kind ⊎ IsPage file n blob_kind

-- pages 0 to 2 of the file are those of a tablespace whose segments have so many pages each
pub record HoldsHeads (file sizes : List ℕ) (flags : ℕ) : Type 0 where
  pub head : IsPage file 0 header_kind
  pub has_header : head_of file ≡ header sizes flags
  pub fragments : (e : ℕ) → e < fragment_extents sizes → extent_of file e ≡ fragment_descriptor sizes e
  pub own : (s k : ℕ) → s < length sizes → k < extents_of (size_at sizes s)
      → extent_of file (extent_start sizes s + k) ≡ own_descriptor sizes s k
  pub bitmap : IsPage file 1 bitmap_kind
  pub inodes : IsPage file 2 inode_kind
  pub node : page_node file 2 ≡ lone_node
  pub has_inodes : (s : ℕ) → s < length sizes → inode_of file (inode_place s) ≡ inode sizes s
  pub unused : (k : ℕ) → length sizes ≤ k → k < 85 → is_used_place (page_of file 2) k ≡ false

-- the file holds pages 0 to 2, and the pages of the segments
pub record HoldsSpace (file sizes : List ℕ) (flags : ℕ) : Type 0 where
  pub pages : page_count file ≡ space_pages sizes
  pub heads : HoldsHeads file sizes flags
  pub segments : (s i : ℕ) → s < length sizes → i < size_at sizes s → IsSegmentPage file (segment_page sizes s i)

-- the segments of the file have so many pages each: their inodes stand in order on page 2, and each uses exactly its
-- pages; the other used pages are the first three
pub record HasSegments (file sizes : List ℕ) : Type 0 where
  pub id : space_of (page_of file 0) ≡ 1
  pub size : size_of file ≡ space_pages sizes
  pub within : size_of file ≤ page_count file
  pub count : segment_count file ≡ length sizes
  pub found : (s : ℕ) → s < length sizes → segment_with_address (segments file) (inode_place s) ≡ s
  pub pages : (s i n kind : ℕ) → IsPlace sizes s i n → kind_of (page_of file n) ≡ kind → IsPageOf file s kind n
  pub uses : (s n : ℕ) → IsUsedBy file s n ↔ ((i : ℕ) × IsPlace sizes s i n)
  pub used : (n : ℕ) → IsUsed file n ↔ ((n < 3) ⊎ ((s : ℕ) × (i : ℕ) × IsPlace sizes s i n))
  pub used_count : length (filter (is_used file) (range_with_len 0 (size_of file))) ≡ 3 + sum sizes
