-- The pages of a built tablespace, each with its number.
use Rattle.std.specs.Prelude.{◌≡◌, ℕ, List, ◌∷◌, length, map, All, Contains}
use Rattle.std.specs.FinMap.{from_entries}
use Rattle.page_source.specs.Objects.{PageMap}
use Rattle.space_layout.specs.Numbers.{IsPlace}
use Rattle.space_layout.specs.HeadPages.{header_page, bitmap_page, inode_page, IsSegmentBytes}

-- a page with its number
abbrev pub Numbered : Type 0
Numbered = ℕ × List ℕ

-- a whole page of a segment, at the number of some place
pub record IsNumbered (sizes : List ℕ) (entry : Numbered) : Type 0 where
  pub whole : length entry.1 ≡ 16384
  pub bytes : IsSegmentBytes entry.1 entry.0
  pub segment : ℕ
  pub at : ℕ
  pub place : IsPlace sizes segment at entry.0

-- pages that are those of the segments: each is one, and each place has one
pub record AreSegmentPages (sizes : List ℕ) (pages : List Numbered) : Type 0 where
  pub each : All (IsNumbered sizes) pages
  pub every : (s i n : ℕ) → IsPlace sizes s i n → Contains (map (λ (entry : Numbered). entry.0) pages) n

-- the first three pages of a tablespace, and behind them these pages
abbrev pub numbered_pages : List ℕ → ℕ → List Numbered → List Numbered
numbered_pages sizes flags pages =
    (0, header_page sizes flags) ∷ (1, bitmap_page) ∷ (2, inode_page sizes) ∷ pages

-- the pages of a built tablespace as a map
unfoldable pub numbered_map : List ℕ → ℕ → List Numbered → PageMap
numbered_map sizes flags pages = from_entries (numbered_pages sizes flags pages)
