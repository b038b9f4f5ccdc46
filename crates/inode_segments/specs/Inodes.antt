-- Segment inodes, 85 on each inode page, and the two lists of inode pages (fsp0fsp).
use Rattle.std.specs.Prelude.{ℕ, Bool, zero, suc, ◌+◌, ◌*◌, ◌==◌, not, List, ◌++◌, length, map, filter, flat_map}
use Rattle.std.specs.List.{range_with_len}
use Rattle.page_source.specs.Pages.{page_of, num, fil_null}
use Rattle.space_header.specs.declared.address.Address.{Address}
use Rattle.space_header.specs.declared.address.Base.{Base}
use Rattle.space_header.specs.declared.address.Node.{Node}
use Rattle.space_header.specs.Header.{base_at, node_at, head_of, node_address}
use Rattle.inode_segments.specs.declared.inode.Inode.{Inode}

-- the 32 fragment slots from this byte on
unfoldable pub slots_at : List ℕ → ℕ → List ℕ
slots_at page at = map (λ i. num page (at + 4 * i) 4) (range_with_len 0 32)

-- the inode at this byte
unfoldable pub inode_at : List ℕ → ℕ → Inode
inode_at page at =
    record {
      id = num page at 8;
      not_full_used = num page (at + 8) 4;
      free = base_at page (at + 12);
      not_full = base_at page (at + 28);
      full = base_at page (at + 44);
      magic = num page (at + 60) 4;
      slots = slots_at page (at + 64);
    }

-- where inode k of a page begins
abbrev pub inode_byte : ℕ → ℕ
inode_byte k = 50 + 192 * k

-- whether inode k of a page is used: it has an id
abbrev pub is_used_place : List ℕ → ℕ → Bool
is_used_place page k = not (num page (inode_byte k) 8 == 0)

-- the places of a page whose inodes are used
unfoldable pub used_places : List ℕ → List ℕ
used_places page = filter (is_used_place page) (range_with_len 0 85)

-- the list node of an inode page, and the address of that node
abbrev pub page_node : List ℕ → ℕ → Node
page_node file n = node_at (page_of file n) 38

abbrev pub page_address : ℕ → Address
page_address n = node_address 38 n

-- the address that step k of a list of pages goes to
abbrev pub step_address : List ℕ → Base → ℕ → Address
step_address file base zero = base.first
step_address file base (suc k) = (page_node file (step_address file base k).page).next

-- the pages of the first k steps
unfoldable pub stepped_pages : List ℕ → Base → ℕ → List ℕ
stepped_pages file base k = map (λ j. (step_address file base j).page) (range_with_len 0 k)

-- the pages of a list, as many as its base counts
abbrev pub list_pages : List ℕ → Base → List ℕ
list_pages file base = stepped_pages file base base.length

-- the pages of INODES_FULL, of INODES_FREE, and of both in this order
abbrev pub full_pages : List ℕ → List ℕ
full_pages file = list_pages file (head_of file).inodes_full

abbrev pub free_pages : List ℕ → List ℕ
free_pages file = list_pages file (head_of file).inodes_free

abbrev pub inode_pages : List ℕ → List ℕ
inode_pages file = full_pages file ++ free_pages file

-- the used inodes of a page in hand, which is page n: their addresses, and what they are
abbrev pub places_on : ℕ → List ℕ → List Address
places_on n page = map (λ k. node_address (inode_byte k) n) (used_places page)

abbrev pub used_on : List ℕ → List Inode
used_on page = map (λ k. inode_at page (inode_byte k)) (used_places page)

-- the used inodes of page n of a file, by their addresses
abbrev pub inodes_on : List ℕ → ℕ → List Address
inodes_on file n = places_on n (page_of file n)

-- the segments in their order, by the addresses of their inodes
unfoldable pub segments : List ℕ → List Address
segments file = flat_map (inodes_on file) (inode_pages file)

-- how many segments there are
abbrev pub segment_count : List ℕ → ℕ
segment_count file = length (segments file)

-- the inode at an address of a file
abbrev pub inode_of : List ℕ → Address → Inode
inode_of file place = inode_at (page_of file place.page) place.offset

-- the inodes of all segments
unfoldable pub inodes_of : List ℕ → List Inode
inodes_of file = map (inode_of file) (segments file)

-- the id of the segment whose inode stands at an address
abbrev pub segment_id : List ℕ → Address → ℕ
segment_id file place = (inode_of file place).id

-- the pages in the slots of a segment
unfoldable pub slot_pages : List ℕ → Address → List ℕ
slot_pages file place = filter (λ slot. not (slot == fil_null)) (inode_of file place).slots
