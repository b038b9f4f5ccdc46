-- Doubly linked lists over addresses (fut0lst).
use Rattle.std.specs.Prelude.{◌≡◌, ◌<◌, ℕ, List, [], ◌∷◌, length, slice_index_or, All, Option, Some, None}
use Rattle.page_source.specs.Lists.{AreDistinct}
use Rattle.space_header.specs.declared.address.Address.{Address}
use Rattle.space_header.specs.declared.address.Base.{Base}
use Rattle.space_header.specs.declared.address.Node.{Node}
use Rattle.space_header.specs.Header.{IsNull, extent_address, node_address}

-- the address is that of the member, or null where there is none
abbrev pub PointsTo : (ℕ → Address) → Address → Option ℕ → Type 0
PointsTo address found None = IsNull found
PointsTo address found (Some member) = found ≡ address member

-- behind the member `before` the address `found` leads from member to member to a null one, each node points
-- back to the member before it, and `last` to the last one
abbrev pub Leads : (ℕ → Node) → (ℕ → Address) → Address → Option ℕ → Address → List ℕ → Type 0
Leads node address last before found [] = IsNull found × PointsTo address last before
Leads node address last before found (m ∷ rest) =
    (found ≡ address m) × PointsTo address (node m).prev before × Leads node address last (Some m) (node m).next rest

-- the base and the nodes link these members, in this order
pub record Linked (base : Base) (node : ℕ → Node) (address : ℕ → Address) (IsMember : ℕ
    → Type 0) (list : List ℕ) : Type 0 where
  pub count : length list ≡ base.length
  pub distinct : AreDistinct list
  pub members : All IsMember list
  pub leads : Leads node address base.last None base.first list

-- the node at a place of a list of nodes; past its end some node, of which nothing is asked
abbrev pub node_in : List Node → ℕ → Node
node_in nodes n =
    slice_index_or nodes n (record { prev = record { page = 0; offset = 0 }; next = record { page = 0; offset = 0 } })

-- the base and the nodes of the extents link these extents
abbrev pub LinksExtents : Base → List Node → List ℕ → Type 0
LinksExtents base nodes list = Linked base (node_in nodes) extent_address (λ e. e < length nodes) list

-- the base and the nodes at a byte of each page link these pages, which are below a number
abbrev pub LinksPages : Base → (ℕ → Node) → ℕ → ℕ → List ℕ → Type 0
LinksPages base node at count list = Linked base node (node_address at) (λ n. n < count) list
