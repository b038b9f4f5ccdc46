-- The inodes that are kept of a file.
use Rattle.std.specs.Prelude.{◌≡◌, ◌↔◌, ℕ, List, [], Bool, false, replicate, Contains}
use Rattle.page_source.specs.Lists.{IsMarked}
use Rattle.space_header.specs.declared.address.Address.{Address}
use Rattle.inode_segments.specs.declared.inode.Inode.{Inode}
use Rattle.inode_segments.specs.Inodes.{segments, inodes_of, inode_pages}

-- used inodes in order, with their places, and for each page whether it is a listed inode page
pub record InodesView : Type 0 where
  pub places : List Address
  pub inodes : List Inode
  pub pages : List Bool

-- no inode is kept yet, of so many pages
abbrev pub none_kept : ℕ → InodesView
none_kept size = record { places = []; inodes = []; pages = replicate size false }

-- the inodes that are kept are those of a file
pub record AreKept (file : List ℕ) (kept : InodesView) : Type 0 where
  pub places : kept.places ≡ segments file
  pub inodes : kept.inodes ≡ inodes_of file
  pub pages : (n : ℕ) → IsMarked kept.pages n ↔ Contains (inode_pages file) n
