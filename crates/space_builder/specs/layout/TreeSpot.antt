-- A packed page at its spot in a tree.
use Rattle.std.specs.Prelude.{◌≡◌, ℕ, ◌+◌, ◌==◌, Bool, if◌then◌else◌, List, Option, Some, None}
use Rattle.fil_frame.specs.Kinds.{index_kind}
use Rattle.fil_frame.specs.Frame.{sealed}
use Rattle.column_values.specs.Types.{Fields}
use Rattle.index_page.specs.Page.{is_lowest_first}
use Rattle.tree_walk.specs.TreeChecks.{before, after}
use Rattle.page_packer.specs.declared.packer.Heads.{Heads}
use Rattle.page_packer.specs.Packing.{Packing, is_leaf, packed_page}
use Rattle.page_packer.specs.Entries.{packing_of}
use Rattle.space_builder.specs.declared.tree_pages.TreeSpot.{TreeSpot}
use Rattle.tree_layout.specs.Division.{Level}
use Rattle.tree_layout.specs.Levels.{page_entries, is_top, numbers_at}
use Rattle.space_builder.specs.layout.TreePage.{heads_of, fields_of_level, tree_page}

-- the segment headers of a root
abbrev pub heads_if : Bool → ℕ → Option Heads
heads_if root index = if root then Some (heads_of index) else None

-- the packed records as the page at this spot
unfoldable pub page_at_spot : Packing → TreeSpot → List ℕ
page_at_spot packing spot =
    sealed (packed_page packing spot.prev spot.next (spot.index + 1) (heads_if spot.root spot.index)) spot.number 1 1
    index_kind

-- where page k of level l of the tree of index j stands
abbrev pub spot_of : (ℕ → ℕ → ℕ) → List Level → ℕ → ℕ → ℕ → TreeSpot
spot_of numbers levels j l k =
    record {
      number = numbers l k;
      prev = before (numbers_at levels numbers l) k;
      next = after (numbers_at levels numbers l) k;
      index = j;
      root = is_top levels l;
    }

-- the entries of a page of a tree, packed, are the page of the layout
abbrev pub PagesArePacked : Type 0
PagesArePacked =
    (leaf node : Fields) (numbers : ℕ → ℕ → ℕ) (levels : List Level) (j l k : ℕ)
    → tree_page leaf node numbers levels j l k
    ≡ page_at_spot
    (packing_of (fields_of_level leaf node l) l (is_lowest_first (is_leaf l) (k == 0)) (page_entries levels l k))
    (spot_of numbers levels j l k)
