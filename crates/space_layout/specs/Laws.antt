-- Laws of the definitions, each the contract of a function in a module of laws.
use Rattle.std.specs.Prelude.{◌≡◌, ℕ, ◌^◌, ◌<◌, ◌≤◌, List, length, map, Contains, Some}
use Rattle.std.specs.FinMap.{get}
use Rattle.page_source.specs.Objects.{PageMap, file_of}
use Rattle.extent_map.specs.Head.{without_data_directory}
use Rattle.space_audit.specs.Audit.{IsSoundSpace}
use Rattle.space_layout.specs.Numbers.{IsShape, AreNumbers, space_pages, AreIndexes, AreSizesOf, sizes_of}
use Rattle.space_layout.specs.ValuePlaces.{HavePlaces}
use Rattle.space_layout.specs.Holds.{HoldsSpace, HasSegments}
use Rattle.space_layout.specs.NumberedPages.{Numbered, AreSegmentPages, numbered_map}
use Rattle.space_layout.specs.HeadPages.{HoldsPages, header_page, bitmap_page, inode_page}

-- these flags are without the bit for DATA DIRECTORY
abbrev pub ArePlain : ℕ → Type 0
ArePlain flags = without_data_directory flags ≡ flags

-- a file that holds the pages of a built tablespace, whose flags are without the bit for DATA DIRECTORY, is a sound
-- space
abbrev pub HoldsSoundSpace : Type 0
HoldsSoundSpace = (file sizes : List ℕ) (flags : ℕ) → IsShape sizes → ArePlain flags → HoldsSpace file sizes flags
    → IsSoundSpace file flags

-- the segments of a file that holds the pages of a built tablespace have the pages that they are to have, and no
-- others
abbrev pub HoldsItsSegments : Type 0
HoldsItsSegments = (file sizes : List ℕ) (flags : ℕ) → IsShape sizes → HoldsSpace file sizes flags
    → HasSegments file sizes

-- each page has a number of its own
abbrev pub NumbersDiffer : Type 0
NumbersDiffer = (sizes : List ℕ) → IsShape sizes → AreNumbers sizes

-- the file of a map that holds these pages holds them
abbrev pub FileHoldsSpace : Type 0
FileHoldsSpace =
    (held : PageMap) (sizes : List ℕ) (flags : ℕ) → IsShape sizes → flags < 2 ^ 32 → HoldsPages held sizes flags
    → HoldsSpace (file_of (space_pages sizes) held) sizes flags

-- indexes have two segments each
abbrev pub IndexesHaveSizes : Type 0
IndexesHaveSizes = (pairs : List (ℕ × ℕ)) → AreSizesOf pairs

-- the sizes of the segments of indexes have a shape
abbrev pub IndexesHaveShape : Type 0
IndexesHaveShape = (pairs : List (ℕ × ℕ)) → AreIndexes pairs → IsShape (sizes_of pairs)

-- the first three pages have all their bytes
pub record AreHeadPages (sizes : List ℕ) (flags : ℕ) : Type 0 where
  pub head : length (header_page sizes flags) ≡ 16384
  pub bitmap : length bitmap_page ≡ 16384
  pub inodes : length (inode_page sizes) ≡ 16384

abbrev pub HeadPagesAreWhole : Type 0
HeadPagesAreWhole = (sizes : List ℕ) (flags : ℕ) → IsShape sizes → AreHeadPages sizes flags

-- the layout's map holds the pages of the space
abbrev pub NumberedPagesAreHeld : Type 0
NumberedPagesAreHeld =
    (sizes : List ℕ) (flags : ℕ) (pages : List Numbered) → IsShape sizes → AreSegmentPages sizes pages
    → HoldsPages (numbered_map sizes flags pages) sizes flags

-- the map has at number n the page that has this number in the list
pub record IsFound (sizes : List ℕ) (flags : ℕ) (pages : List Numbered) (n : ℕ) : Type 0 where
  pub page : List ℕ
  pub held : get (numbered_map sizes flags pages) n ≡ Some page
  pub among : Contains pages (n, page)

abbrev pub NumberedPagesAreFound : Type 0
NumberedPagesAreFound =
    (sizes : List ℕ) (flags : ℕ) (pages : List Numbered) (n : ℕ) → 3 ≤ n
    → Contains (map (λ (entry : Numbered). entry.0) pages) n → IsFound sizes flags pages n

-- each part of a long value has a place of its own
abbrev pub ValuesHavePlaces : Type 0
ValuesHavePlaces = (counts : List (List ℕ)) → HavePlaces counts
