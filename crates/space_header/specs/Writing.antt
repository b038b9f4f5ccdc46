-- The bytes of addresses, list bases and nodes (fut0lst), and of the space header (fsp0fsp).
use Rattle.std.specs.Prelude.{ℕ, ◌<◌, ◌^◌, List, ◌++◌}
use Rattle.page_source.specs.Pages.{be_bytes, with_bytes}
use Rattle.space_header.specs.declared.address.Address.{Address}
use Rattle.space_header.specs.declared.address.Base.{Base}
use Rattle.space_header.specs.declared.address.Node.{Node}
use Rattle.space_header.specs.declared.header.SpaceHeader.{SpaceHeader}

-- the bytes of an address, 6, of a list base, 16, and of a list node, 12
unfoldable pub address_bytes : Address → List ℕ
address_bytes address = be_bytes 4 address.page ++ be_bytes 2 address.offset

unfoldable pub base_bytes : Base → List ℕ
base_bytes base = be_bytes 4 base.length ++ address_bytes base.first ++ address_bytes base.last

unfoldable pub node_bytes : Node → List ℕ
node_bytes node = address_bytes node.prev ++ address_bytes node.next

-- the numbers of an address fit the bytes of their fields
pub record FitsAddress (address : Address) : Type 0 where
  pub page : address.page < 2 ^ 32
  pub offset : address.offset < 2 ^ 16

-- the numbers of a list base, of a list node and of the header fit the bytes of their fields
pub record FitsBase (base : Base) : Type 0 where
  pub length : base.length < 2 ^ 32
  pub first : FitsAddress base.first
  pub last : FitsAddress base.last

pub record FitsNode (node : Node) : Type 0 where
  pub prev : FitsAddress node.prev
  pub next : FitsAddress node.next

pub record FitsHeader (header : SpaceHeader) : Type 0 where
  pub space : header.space < 2 ^ 32
  pub size : header.size < 2 ^ 32
  pub limit : header.limit < 2 ^ 32
  pub flags : header.flags < 2 ^ 32
  pub frag_used : header.frag_used < 2 ^ 32
  pub next_segment : header.next_segment < 2 ^ 64
  pub free : FitsBase header.free
  pub free_frag : FitsBase header.free_frag
  pub full_frag : FitsBase header.full_frag
  pub inodes_full : FitsBase header.inodes_full
  pub inodes_free : FitsBase header.inodes_free

-- the bytes of the header behind its space id and the four unused bytes
unfoldable pub header_bytes : SpaceHeader → List ℕ
header_bytes header =
    be_bytes 4 header.size ++ be_bytes 4 header.limit ++ be_bytes 4 header.flags ++ be_bytes 4 header.frag_used
    ++ base_bytes header.free ++ base_bytes header.free_frag ++ base_bytes header.full_frag
    ++ be_bytes 8 header.next_segment ++ base_bytes header.inodes_full ++ base_bytes header.inodes_free

-- the page with this header, and its other bytes as before
unfoldable pub with_header : List ℕ → SpaceHeader → List ℕ
with_header page header = with_bytes (with_bytes page 38 (be_bytes 4 header.space)) 46 (header_bytes header)
