-- Extents of 64 pages, and the descriptors that say which of their pages are used (fsp0fsp).
use Rattle.std.specs.Prelude.{◌≡◌, ℕ, ◌+◌, ◌*◌, ◌/◌, ◌%◌, ◌^◌, ◌<◌, Bool, true, ◌&&◌, ◌||◌, not, nat_lt, ◌==◌}
use Rattle.std.specs.Prelude.{if◌then◌else◌, List, length, map, filter, sum_by, slice_index}
use Rattle.std.specs.List.{range_with_len}
use Rattle.page_source.specs.Pages.{page_of, num}
use Rattle.space_header.specs.declared.address.Node.{Node}
use Rattle.space_header.specs.Header.{node_at, size_of, limit_of}
use Rattle.extent_map.specs.declared.extent.Extent.{Extent}

-- whether page j of the extent is used, by the first of its two bits in the bitmap at `at`
abbrev pub is_bit_clear : List ℕ → ℕ → ℕ → Bool
is_bit_clear page at j = slice_index page (at + j / 4) / 2 ^ (2 * (j % 4)) % 2 == 0

-- the pages in use as a number, the first page as the lowest bit
unfoldable pub used_mask : List ℕ → ℕ → ℕ
used_mask page at = sum_by (λ j. if is_bit_clear page at j then 2 ^ j else 0) (range_with_len 0 64)

-- the descriptor at this byte
unfoldable pub extent_at : List ℕ → ℕ → Extent
extent_at page at = record {
  id = num page at 8;
  node = node_at page (at + 8);
  state = num page (at + 20) 4;
  used =
      used_mask page (at + 24);
}

-- how many extents are below the free limit
abbrev pub extent_count : List ℕ → ℕ
extent_count file = limit_of file / 64

-- the page and the byte at which the descriptor of an extent stands
abbrev pub descriptor_page : ℕ → ℕ
descriptor_page extent = 16384 * (extent / 256)

abbrev pub descriptor_byte : ℕ → ℕ
descriptor_byte extent = 150 + 40 * (extent % 256)

-- the descriptor of an extent of a file
unfoldable pub extent_of : List ℕ → ℕ → Extent
extent_of file extent = extent_at (page_of file (descriptor_page extent)) (descriptor_byte extent)

-- the descriptors of all extents of a file
unfoldable pub extents_of : List ℕ → List Extent
extents_of file = map (extent_of file) (range_with_len 0 (extent_count file))

-- the list node and the state of an extent
abbrev pub extent_node : List ℕ → ℕ → Node
extent_node file extent = (extent_of file extent).node

abbrev pub extent_state : List ℕ → ℕ → ℕ
extent_state file extent = (extent_of file extent).state

-- the list nodes of all extents
unfoldable pub extent_nodes : List ℕ → List Node
extent_nodes file = map (extent_node file) (range_with_len 0 (extent_count file))

-- these are the extents of a file, whose free limit is a whole number of them
pub record AreExtents (file : List ℕ) (extents : List Extent) : Type 0 where
  pub same : extents ≡ extents_of file
  pub whole : limit_of file % 64 ≡ 0

-- this is the descriptor of an extent below the free limit
pub record IsDescribed (file : List ℕ) (extent : ℕ) (descriptor : Extent) : Type 0 where
  pub same : extent_of file extent ≡ descriptor
  pub below : extent < extent_count file

-- whether a page is used: below the free limit, and marked so in its descriptor
unfoldable pub is_used : List ℕ → ℕ → Bool
is_used file n =
    nat_lt n (limit_of file)
    && is_bit_clear (page_of file (descriptor_page (n / 64))) (descriptor_byte (n / 64) + 24) (n % 64)

abbrev pub IsUsed : List ℕ → ℕ → Type 0
IsUsed file n = is_used file n ≡ true

-- the pages of an extent, and those of them that are used
unfoldable pub extent_pages : ℕ → List ℕ
extent_pages extent = range_with_len (64 * extent) 64

unfoldable pub used_in : List ℕ → ℕ → List ℕ
used_in file extent = filter (is_used file) (extent_pages extent)

abbrev pub used_count : List ℕ → ℕ → ℕ
used_count file extent = length (used_in file extent)

-- the extents whose pages are given out one by one: FREE_FRAG and FULL_FRAG
abbrev pub is_fragment_extent : List ℕ → ℕ → Bool
is_fragment_extent file extent = (extent_state file extent == 2) || (extent_state file extent == 3)

-- the header or descriptor page of each 16,384 pages, and the bitmap page after it
abbrev pub is_system_page : ℕ → Bool
is_system_page n = nat_lt (n % 16384) 2

-- a used page of a fragment extent that is no system page
abbrev pub is_fragment_page : List ℕ → ℕ → Bool
is_fragment_page file n = is_used file n && is_fragment_extent file (n / 64) && not (is_system_page n)

-- a used page of a fragment extent that is no system page, below the stated size
abbrev pub IsFragmentPage : List ℕ → ℕ → Type 0
IsFragmentPage file n = (n < size_of file) × (is_fragment_page file n ≡ true)

-- the flags of the pages below the free limit
abbrev pub fragment_flags : List ℕ → List Bool
fragment_flags file = map (is_fragment_page file) (range_with_len 0 (limit_of file))
