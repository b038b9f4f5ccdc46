-- Pages that stand somewhere in a raw image of a disk, each at a place of its own.
use Rattle.std.specs.Prelude.{◌≡◌, ◌≢◌, ◌<◌, ◌≤◌, ◌+◌, ◌%◌, ℕ, List, [], ◌∷◌, length, Contains}
use Rattle.page_source.specs.Pages.{page_size, num, bytes_at}
use Rattle.fil_frame.specs.Kinds.{inode_kind, bitmap_kind, header_kind, descriptor_kind, blob_kind, index_kind}
use Rattle.fil_frame.specs.Frame.{kind_of, space_of}
use Rattle.leaf_salvage.specs.Standing.{most_pages, Stands}

-- the bytes of a sector
abbrev pub sector_size : ℕ
sector_size = 512

-- a place is where a sector begins, with a whole page from there on
pub record IsPlace (image : List ℕ) (o : ℕ) : Type 0 where
  pub sector : o % sector_size ≡ 0
  pub whole : o + page_size ≤ length image

-- the bytes of a page at a place
abbrev pub page_at : List ℕ → ℕ → List ℕ
page_at image o = bytes_at image o page_size

-- the LSN of the last change of a page
abbrev pub lsn_of : List ℕ → ℕ
lsn_of page = num page 16 8

-- the types of the pages that a table has
abbrev pub table_kinds : List ℕ
table_kinds = inode_kind ∷ bitmap_kind ∷ header_kind ∷ descriptor_kind ∷ blob_kind ∷ index_kind ∷ []

-- the page is page n of this space, and stands by itself
pub record IsPageOf (page : List ℕ) (space n : ℕ) : Type 0 where
  pub stands : Stands page n
  pub below : n < most_pages
  pub has_space : space_of page ≡ space
  pub some_space : space ≢ 0
  pub has_kind : Contains table_kinds (kind_of page)

-- page n of this space is found at this place
pub record IsFound (image : List ℕ) (o space n : ℕ) : Type 0 where
  pub place : IsPlace image o
  pub page : IsPageOf (page_at image o) space n
