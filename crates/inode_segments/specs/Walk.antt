-- What is known along a walk over a list of inode pages.
use Rattle.std.specs.Prelude.{◌≡◌, ◌≤◌, ℕ, Bool, List, ◌++◌, flat_map, map, Option}
use Rattle.page_source.specs.Pages.{page_of, page_count}
use Rattle.page_source.specs.Verdict.{Reaches}
use Rattle.fil_frame.specs.Frame.{space_of}
use Rattle.space_header.specs.declared.address.Address.{Address}
use Rattle.space_header.specs.declared.address.Base.{Base}
use Rattle.space_header.specs.declared.header.SpaceHeader.{SpaceHeader}
use Rattle.space_header.specs.Header.{head_of}
use Rattle.inode_segments.specs.Inodes.{step_address, inodes_on, inode_of}
use Rattle.inode_segments.specs.InodeChecks.{step_before, holder_of_step, EndsAt, StepChecks}
use Rattle.inode_segments.specs.Kept.{InodesView}

-- the header is that of the file, in whose pages it may be followed
pub record DescribesFile (file : List ℕ) (header : SpaceHeader) : Type 0 where
  pub same : header ≡ head_of file
  pub space : space_of (page_of file 0) ≡ header.space
  pub within : header.size ≤ page_count file

-- after k steps these are the next address, the page that holds it and the address before
pub record IsAt (file : List ℕ) (base : Base) (address : Address) (holder : ℕ) (before : Option Address) (k : ℕ)
    : Type 0 where
  pub address_is : address ≡ step_address file base k
  pub holder_is : holder ≡ holder_of_step file base k
  pub before_is : before ≡ step_before file base k

-- the first k steps of a list were made, and their checks held
abbrev pub Held : List ℕ → (ℕ → Bool) → Bool → List ℕ → Base → ℕ → Type 0
Held file is_fragment full earlier base k =
    Reaches (EndsAt file base) (StepChecks file is_fragment full earlier base) k

-- the used inodes of these pages of a file were added
pub record Grew (file pages : List ℕ) (old new : InodesView) : Type 0 where
  pub places : new.places ≡ old.places ++ flat_map (inodes_on file) pages
  pub inodes : new.inodes ≡ old.inodes ++ map (inode_of file) (flat_map (inodes_on file) pages)
