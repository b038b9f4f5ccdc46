-- The bytes of an inode (fsp0fsp).
use Rattle.std.specs.Prelude.{◌≡◌, ℕ, ◌<◌, ◌^◌, List, ◌++◌, length, flat_map, All}
use Rattle.page_source.specs.Pages.{be_bytes}
use Rattle.space_header.specs.Writing.{FitsBase, base_bytes}
use Rattle.inode_segments.specs.declared.inode.Inode.{Inode}

-- the bytes of fragment slots, four each
unfoldable pub slots_bytes : List ℕ → List ℕ
slots_bytes slots = flat_map (be_bytes 4) slots

-- the 192 bytes of an inode
unfoldable pub inode_bytes : Inode → List ℕ
inode_bytes inode =
    be_bytes 8 inode.id ++ be_bytes 4 inode.not_full_used ++ base_bytes inode.free ++ base_bytes inode.not_full
    ++ base_bytes inode.full ++ be_bytes 4 inode.magic ++ slots_bytes inode.slots

-- the numbers of an inode fit the bytes of their fields
pub record FitsInode (inode : Inode) : Type 0 where
  pub id : inode.id < 2 ^ 64
  pub used : inode.not_full_used < 2 ^ 32
  pub free : FitsBase inode.free
  pub not_full : FitsBase inode.not_full
  pub full : FitsBase inode.full
  pub magic : inode.magic < 2 ^ 32
  pub count : length inode.slots ≡ 32
  pub slots : All (λ slot. slot < 2 ^ 32) inode.slots
