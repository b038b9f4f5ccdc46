-- The bytes of an extent descriptor (fsp0fsp).
use Rattle.std.specs.Prelude.{ℕ, ◌+◌, ◌-◌, ◌*◌, ◌^◌, ◌/◌, ◌%◌, ◌<◌, List, ◌++◌, map, sum_by}
use Rattle.std.specs.List.{range_with_len}
use Rattle.page_source.specs.Pages.{be_bytes}
use Rattle.space_header.specs.Writing.{FitsNode, node_bytes}
use Rattle.extent_map.specs.declared.extent.Extent.{Extent}

-- byte i of the bitmap: two bits for each of four pages, of which the first is 1 where the page is free and the second
-- is always 1
unfoldable pub bitmap_byte : ℕ → ℕ → ℕ
bitmap_byte used i = sum_by (λ k. (3 - used / 2 ^ (4 * i + k) % 2) * 4 ^ k) (range_with_len 0 4)

-- the whole bitmap, 16 bytes
unfoldable pub bitmap_bytes : ℕ → List ℕ
bitmap_bytes used = map (bitmap_byte used) (range_with_len 0 16)

-- the 40 bytes of a descriptor
unfoldable pub extent_bytes : Extent → List ℕ
extent_bytes extent =
    be_bytes 8 extent.id ++ node_bytes extent.node ++ be_bytes 4 extent.state ++ bitmap_bytes extent.used

-- the numbers of a descriptor fit the bytes of their fields
pub record FitsExtent (extent : Extent) : Type 0 where
  pub id : extent.id < 2 ^ 64
  pub node : FitsNode extent.node
  pub state : extent.state < 2 ^ 32
  pub used : extent.used < 2 ^ 64
