-- Laws of the definitions, each the contract of a function in the module of laws.
use Rattle.std.specs.Prelude.{◌≡◌, ◌≤◌, ◌↔◌, ℕ, ◌+◌, Bool, List, length, None}
use Rattle.page_source.specs.Pages.{with_bytes}
use Rattle.space_header.specs.Header.{size_of}
use Rattle.inode_segments.specs.declared.inode.Inode.{Inode}
use Rattle.inode_segments.specs.Inodes.{inode_at}
use Rattle.inode_segments.specs.Writing.{FitsInode, inode_bytes}
use Rattle.inode_segments.specs.InodeChecks.{AllInodeChecks, AreInodes}

-- the checks of the inode lists and of the inodes find nothing exactly where these are sound
abbrev pub InodeChecksAreSound : Type 0
InodeChecksAreSound =
    (file : List ℕ) (is_fragment : ℕ → Bool) → size_of file ≤ 4194304
    → (AllInodeChecks file is_fragment None ↔ AreInodes file is_fragment)

-- an inode that was written is read again
abbrev pub WrittenInodesAreRead : Type 0
WrittenInodesAreRead =
    (page : List ℕ) (at : ℕ) (inode : Inode) → length page ≡ 16384 → at + 192 ≤ 16384 → FitsInode inode
    → inode_at (with_bytes page at (inode_bytes inode)) at ≡ inode
