-- The space header on page 0 (fsp0fsp), and list bases, nodes and addresses (fut0lst).
use Rattle.std.specs.Prelude.{◌≡◌, ℕ, ◌+◌, ◌*◌, ◌/◌, ◌%◌, List}
use Rattle.page_source.specs.Pages.{page_of, num, fil_null}
use Rattle.space_header.specs.declared.address.Address.{Address}
use Rattle.space_header.specs.declared.address.Base.{Base}
use Rattle.space_header.specs.declared.address.Node.{Node}
use Rattle.space_header.specs.declared.header.SpaceHeader.{SpaceHeader}

-- the space id that the space header names, the size in pages, the free limit and the flags
abbrev pub header_space : List ℕ → ℕ
header_space page = num page 38 4

abbrev pub stated_size : List ℕ → ℕ
stated_size page = num page 46 4

abbrev pub free_limit : List ℕ → ℕ
free_limit page = num page 50 4

abbrev pub space_flags : List ℕ → ℕ
space_flags page = num page 54 4

-- the size in pages that page 0 of a file states
abbrev pub size_of : List ℕ → ℕ
size_of file = stated_size (page_of file 0)

-- the free limit of a file: pages from there on were never used
abbrev pub limit_of : List ℕ → ℕ
limit_of file = free_limit (page_of file 0)

-- an address, a list base and a list node at a byte of a page
unfoldable pub address_at : List ℕ → ℕ → Address
address_at page at = record { page = num page at 4; offset = num page (at + 4) 2 }

unfoldable pub base_at : List ℕ → ℕ → Base
base_at page at = record { length = num page at 4; first = address_at page (at + 4); last = address_at page (at + 10) }

unfoldable pub node_at : List ℕ → ℕ → Node
node_at page at = record { prev = address_at page at; next = address_at page (at + 6) }

-- the whole header
unfoldable pub header_of : List ℕ → SpaceHeader
header_of page =
    record {
      space = header_space page;
      size = stated_size page;
      limit = free_limit page;
      flags = space_flags page;
      frag_used = num page 58 4;
      next_segment = num page 110 8;
      free = base_at page 62;
      free_frag = base_at page 78;
      full_frag = base_at page 94;
      inodes_full = base_at page 118;
      inodes_free = base_at page 134;
    }

-- the header of a file
abbrev pub head_of : List ℕ → SpaceHeader
head_of file = header_of (page_of file 0)

-- the address of the list node in the descriptor of an extent
abbrev pub extent_address : ℕ → Address
extent_address extent = record { page = 16384 * (extent / 256); offset = 158 + 40 * (extent % 256) }

-- the address of the list node at a byte of a page
abbrev pub node_address : ℕ → ℕ → Address
node_address at page = record { page = page; offset = at }

-- the address of no page
abbrev pub IsNull : Address → Type 0
IsNull address = address.page ≡ fil_null
