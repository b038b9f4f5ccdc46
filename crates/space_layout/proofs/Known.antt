-- What is known of a file whose space is shown to be sound: the pages that it holds, and the laws of the crates below
-- on which all of that rests.
use Rattle.std.proofs.Common.{◌≡◌, ℕ, ◌<◌, List, length}
use Rattle.page_source.specs.Pages.{page_count}
use Rattle.space_layout.specs.Numbers.{size_at, space_pages, segment_page}
use Rattle.space_layout.specs.LowerLaws.{UseLaws}
use Rattle.space_layout.specs.Holds.{IsSegmentPage, HoldsHeads, HoldsSpace}

-- the first three pages
pub record KnownHeads (file sizes : List ℕ) (flags : ℕ) : Type 0 where
  pub laws : UseLaws
  pub held : HoldsHeads file sizes flags

-- all of them
pub record KnownSpace (file sizes : List ℕ) (flags : ℕ) : Type 0 where
  pub pages : page_count file ≡ space_pages sizes
  pub heads : KnownHeads file sizes flags
  pub segments : (s i : ℕ) → s < length sizes → i < size_at sizes s → IsSegmentPage file (segment_page sizes s i)

pub known : UseLaws → (file sizes : List ℕ) (flags : ℕ) → HoldsSpace file sizes flags → KnownSpace file sizes flags
known laws file sizes flags holds = record {
  pages = holds.pages;
  heads = record { laws = laws; held = holds.heads };
  segments = holds.segments;
}
