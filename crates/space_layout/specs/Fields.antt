-- The header, the descriptors and the inodes of a built tablespace.
use Rattle.std.specs.Prelude.{ℕ, ◌+◌, ◌-◌, ◌^◌, ◌/◌, ◌%◌, nat_lt, if◌then◌else◌, List, length, map}
use Rattle.std.specs.List.{range_with_len}
use Rattle.page_source.specs.Pages.{fil_null}
use Rattle.space_header.specs.declared.address.Address.{Address}
use Rattle.space_header.specs.declared.address.Node.{Node}
use Rattle.space_header.specs.declared.header.SpaceHeader.{SpaceHeader}
use Rattle.space_header.specs.Header.{node_address}
use Rattle.extent_map.specs.declared.extent.Extent.{Extent}
use Rattle.inode_segments.specs.declared.inode.Inode.{Inode}
use Rattle.inode_segments.specs.Inodes.{inode_byte, page_address}
use Rattle.inode_segments.specs.InodeChecks.{inode_magic}
use Rattle.space_layout.specs.Numbers.{size_at, own_of, extents_of, used_fragments, fragment_extents, extent_start}
use Rattle.space_layout.specs.Numbers.{space_pages, segment_page}
use Rattle.space_layout.specs.declared.runs.Run.{Run}
use Rattle.space_layout.specs.Runs.{no_run, null_address, base_of, node_of}

-- the fragment extents whose pages are all used, and the last one where some of its pages are free
abbrev pub full_fragments : List ℕ → Run
full_fragments sizes = record { first = 0; count = used_fragments sizes / 64 }

abbrev pub open_fragments : List ℕ → Run
open_fragments sizes =
    record { first = used_fragments sizes / 64; count = fragment_extents sizes - used_fragments sizes / 64 }

-- the extents of segment s whose pages are all used, and its last one where some are free
abbrev pub full_of : List ℕ → ℕ → Run
full_of sizes s = record { first = extent_start sizes s; count = own_of (size_at sizes s) / 64 }

abbrev pub open_of : List ℕ → ℕ → Run
open_of sizes s =
    record {
      first = extent_start sizes s + own_of (size_at sizes s) / 64;
      count = extents_of (size_at sizes s) - own_of (size_at sizes s) / 64;
    }

-- the descriptor of an extent whose first pages are used, so many of them
unfoldable pub described : ℕ → ℕ → Run → ℕ → ℕ → Extent
described id state run count e = record { id = id; node = node_of run e; state = state; used = 2 ^ count - 1 }

-- the descriptors of fragment extent e, and of extent k of segment s
unfoldable pub fragment_descriptor : List ℕ → ℕ → Extent
fragment_descriptor sizes e =
    if nat_lt e (used_fragments sizes / 64) then described 0 3 (full_fragments sizes) 64 e
    else described 0 2 (open_fragments sizes) (used_fragments sizes % 64) e

unfoldable pub own_descriptor : List ℕ → ℕ → ℕ → Extent
own_descriptor sizes s k =
    if nat_lt k (own_of (size_at sizes s) / 64) then described (s + 1) 4 (full_of sizes s) 64 (extent_start sizes s + k)
    else described (s + 1) 4 (open_of sizes s) (own_of (size_at sizes s) % 64) (extent_start sizes s + k)

-- the space header
unfoldable pub header : List ℕ → ℕ → SpaceHeader
header sizes flags =
    record {
      space = 1;
      size = space_pages sizes;
      limit = space_pages sizes;
      flags = flags;
      frag_used = used_fragments sizes % 64;
      next_segment = length sizes + 1;
      free = base_of no_run;
      free_frag = base_of (open_fragments sizes);
      full_frag = base_of (full_fragments sizes);
      inodes_full = base_of no_run;
      inodes_free = record { length = 1; first = page_address 2; last = page_address 2 };
    }

-- the list node of the inode page, which is the only one
abbrev pub lone_node : Node
lone_node = record { prev = null_address; next = null_address }

-- slot i of segment s, and its inode
abbrev pub slot_of : List ℕ → ℕ → ℕ → ℕ
slot_of sizes s i = if nat_lt i (size_at sizes s) then segment_page sizes s i else fil_null

unfoldable pub inode : List ℕ → ℕ → Inode
inode sizes s =
    record {
      id = s + 1;
      not_full_used = own_of (size_at sizes s) % 64;
      free = base_of no_run;
      not_full = base_of (open_of sizes s);
      full = base_of (full_of sizes s);
      magic = inode_magic;
      slots = map (slot_of sizes s) (range_with_len 0 32);
    }

-- the address of the inode of segment s
abbrev pub inode_place : ℕ → Address
inode_place s = node_address (inode_byte s) 2
