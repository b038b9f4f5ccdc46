-- Laws of the definitions, each the contract of a function in a module of laws.
use Rattle.std.specs.Prelude.{◌≡◌, ◌≤◌, ℕ, List, length}
use Rattle.page_source.specs.Pages.{fil_null, with_bytes}
use Rattle.space_header.specs.declared.address.Base.{Base}
use Rattle.space_header.specs.declared.address.Node.{Node}
use Rattle.space_header.specs.declared.header.SpaceHeader.{SpaceHeader}
use Rattle.space_header.specs.Header.{base_at, node_at, header_of}
use Rattle.space_header.specs.Writing.{FitsBase, FitsNode, FitsHeader, base_bytes, node_bytes, with_header}
use Rattle.space_header.specs.Linked.{LinksExtents, LinksPages}

-- a base and the nodes of extents link one list at the most
abbrev pub LinksOneList : Type 0
LinksOneList =
    (base : Base) (nodes : List Node) (xs ys : List ℕ) → length nodes ≤ 65536
    → LinksExtents base nodes xs → LinksExtents base nodes ys → xs ≡ ys

-- a base and the nodes of pages link one list at the most
abbrev pub LinksOnePageList : Type 0
LinksOnePageList =
    (base : Base) (node : ℕ → Node) (at count : ℕ) (xs ys : List ℕ) → count ≤ fil_null
    → LinksPages base node at count xs → LinksPages base node at count ys → xs ≡ ys

-- a list base, a list node and a header that were written are read again
pub record WrittenFieldsAreRead : Type 0 where
  pub base : (page : List ℕ) (at : ℕ) (base : Base) → at ≤ length page → FitsBase base
      → base_at (with_bytes page at (base_bytes base)) at ≡ base
  pub node : (page : List ℕ) (at : ℕ) (node : Node) → at ≤ length page → FitsNode node
      → node_at (with_bytes page at (node_bytes node)) at ≡ node
  pub header : (page : List ℕ) (header : SpaceHeader) → length page ≡ 16384 → FitsHeader header
      → header_of (with_header page header) ≡ header
