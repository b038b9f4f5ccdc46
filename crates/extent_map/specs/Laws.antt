-- Laws of the definitions, each the contract of a function in the module of laws.
use Rattle.std.specs.Prelude.{◌≡◌, ◌↔◌, ℕ, ◌+◌, ◌*◌, ◌/◌, ◌%◌, ◌^◌, ◌<◌, ◌≤◌, ◌==◌, List, length, Contains, None}
use Rattle.page_source.specs.Lists.{AreDistinct, flag_in}
use Rattle.page_source.specs.Pages.{with_bytes}
use Rattle.extent_map.specs.declared.extent.Extent.{Extent}
use Rattle.extent_map.specs.Head.{HeadChecks, IsHead}
use Rattle.extent_map.specs.Extents.{extent_at, extent_of, extent_count, is_used, IsUsed, used_in, used_count}
use Rattle.extent_map.specs.Extents.{is_fragment_page, fragment_flags}
use Rattle.extent_map.specs.Writing.{FitsExtent, extent_bytes}
use Rattle.extent_map.specs.Descriptors.{AllDescriptorChecks, IsDescriptorPage, IsExtent, descriptor_pages}

-- the checks of the head find nothing exactly where it is that of a tablespace with these flags
abbrev pub HeadChecksAreSound : Type 0
HeadChecksAreSound = (file : List ℕ) (flags : ℕ) → HeadChecks file flags None ↔ IsHead file flags

-- the later descriptor pages are such pages, and each extent is as its state says
pub record HasDescriptors (file : List ℕ) : Type 0 where
  pub pages : (k : ℕ) → 0 < k → k < descriptor_pages file → IsDescriptorPage file (16384 * k)
  pub extents : (e : ℕ) → e < extent_count file → IsExtent file e

-- the checks of the descriptors find nothing exactly where these are sound
abbrev pub DescriptorChecksAreSound : Type 0
DescriptorChecksAreSound = (file : List ℕ) → AllDescriptorChecks file None ↔ HasDescriptors file

-- the used pages of an extent are those of its 64 pages that are used, each once
pub record AreUsedPages (file : List ℕ) (extent : ℕ) : Type 0 where
  pub members : (n : ℕ) → Contains (used_in file extent) n ↔ ((n / 64 ≡ extent) × IsUsed file n)
  pub distinct : AreDistinct (used_in file extent)
  pub few : used_count file extent ≤ 64

abbrev pub UsedPagesAreOfExtents : Type 0
UsedPagesAreOfExtents = (file : List ℕ) (extent : ℕ) → AreUsedPages file extent

-- the flags say of every page whether it is a fragment page
abbrev pub FlagsAreFragmentPages : Type 0
FlagsAreFragmentPages = (file : List ℕ) (n : ℕ) → flag_in (fragment_flags file) n ≡ is_fragment_page file n

-- the bits of a descriptor's number say which pages of its extent are used
abbrev pub BitsAreUsedPages : Type 0
BitsAreUsedPages =
    (file : List ℕ) (extent j : ℕ) → extent < extent_count file → j < 64
    → is_used file (64 * extent + j) ≡ ((extent_of file extent).used / 2 ^ j % 2 == 1)

-- a descriptor that was written is read again
abbrev pub WrittenExtentsAreRead : Type 0
WrittenExtentsAreRead =
    (page : List ℕ) (at : ℕ) (extent : Extent) → at + 40 ≤ length page → FitsExtent extent
    → extent_at (with_bytes page at (extent_bytes extent)) at ≡ extent
