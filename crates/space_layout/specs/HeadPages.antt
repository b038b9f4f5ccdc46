-- The bytes of the first three pages of a built tablespace.
use Rattle.std.specs.Prelude.{◌≡◌, ℕ, ◌⊎◌, List, ◌++◌, length, map, flat_map, replicate, Some}
use Rattle.std.specs.List.{range_with_len}
use Rattle.std.specs.FinMap.{get}
use Rattle.page_source.specs.Pages.{with_bytes}
use Rattle.page_source.specs.Objects.{PageMap}
use Rattle.page_source.specs.Sources.{AreWhole}
use Rattle.fil_frame.specs.Kinds.{header_kind, bitmap_kind, inode_kind, blob_kind, index_kind}
use Rattle.fil_frame.specs.Frame.{sealed, IsFramed, kind_of}
use Rattle.space_header.specs.Writing.{with_header, node_bytes}
use Rattle.extent_map.specs.declared.extent.Extent.{Extent}
use Rattle.extent_map.specs.Writing.{extent_bytes}
use Rattle.inode_segments.specs.declared.inode.Inode.{Inode}
use Rattle.inode_segments.specs.Writing.{inode_bytes}
use Rattle.space_layout.specs.Numbers.{size_at, extents_of, fragment_extents, IsPlace}
use Rattle.space_layout.specs.Fields.{header, fragment_descriptor, own_descriptor, inode, lone_node}

-- a page of zeros
unfoldable pub zeros : List ℕ
zeros = replicate 16384 0

-- the descriptors of all extents, rising
abbrev pub own_descriptors : List ℕ → ℕ → List Extent
own_descriptors sizes s = map (own_descriptor sizes s) (range_with_len 0 (extents_of (size_at sizes s)))

unfoldable pub descriptors : List ℕ → List Extent
descriptors sizes =
    map (fragment_descriptor sizes) (range_with_len 0 (fragment_extents sizes))
    ++ flat_map (own_descriptors sizes) (range_with_len 0 (length sizes))

-- the inodes of all segments
unfoldable pub inodes : List ℕ → List Inode
inodes sizes = map (inode sizes) (range_with_len 0 (length sizes))

-- page 0: the header, and the descriptors from byte 150 on
unfoldable pub header_page : List ℕ → ℕ → List ℕ
header_page sizes flags =
    sealed (with_bytes (with_header zeros (header sizes flags)) 150 (flat_map extent_bytes (descriptors sizes))) 0 1 1
    header_kind

-- page 1
unfoldable pub bitmap_page : List ℕ
bitmap_page = sealed zeros 1 1 1 bitmap_kind

-- page 2: its list node, and the inodes from byte 50 on
unfoldable pub inode_page : List ℕ → List ℕ
inode_page sizes =
    sealed (with_bytes (with_bytes zeros 38 (node_bytes lone_node)) 50 (flat_map inode_bytes (inodes sizes))) 2 1 1
    inode_kind

-- this is page n of a segment of space 1, by its frame and its type
pub record IsSegmentBytes (page : List ℕ) (n : ℕ) : Type 0 where
  pub framed : IsFramed page n 1
  pub kind : (kind_of page ≡ index_kind) ⊎ (kind_of page ≡ blob_kind)

-- the map holds page n, which is one of a segment of space 1
abbrev pub HoldsSegmentPage : PageMap → ℕ → Type 0
HoldsSegmentPage held n = (page : List ℕ) × (get held n ≡ Some page) × IsSegmentBytes page n

-- the map holds the first three pages, and a page of a segment at each number of one
pub record HoldsPages (held : PageMap) (sizes : List ℕ) (flags : ℕ) : Type 0 where
  pub whole : AreWhole held
  pub head : get held 0 ≡ Some (header_page sizes flags)
  pub bitmap : get held 1 ≡ Some bitmap_page
  pub inodes : get held 2 ≡ Some (inode_page sizes)
  pub segments : (s i n : ℕ) → IsPlace sizes s i n → HoldsSegmentPage held n
