-- The lines of a listing, counted page by page.
use Rattle.std.specs.Prelude.{◌≡◌, ◌+◌, ◌^◌, ◌<◌, ◌==◌, ◌&&◌, ℕ, max, Bool, true, false, cond}
use Rattle.std.specs.Prelude.{List, [], length, map, filter, Option, Some, None, unwrap_or, IfSome}
use Rattle.std.specs.declared.cmp.Ordering.{Ordering}
use Rattle.std.specs.Ordering.{nat_cmp, ordering_then}
use Rattle.std.specs.Option.{option_cmp}
use Rattle.std.specs.BTreeMap.{BTreeMap, get}
use Rattle.page_scan.specs.Newest.{IsGreatest}
use Rattle.image_listing.specs.declared.catalogue.Version.{Version}
use Rattle.image_listing.specs.declared.lines.Tally.{Tally}
use Rattle.image_listing.specs.Listing.{Line}

-- the order of lines: by space, and a space before its indexes
abbrev pub line_cmp : ℕ × Option ℕ → ℕ × Option ℕ → Ordering
line_cmp a b = ordering_then (nat_cmp a.0 b.0) (option_cmp nat_cmp a.1 b.1)

-- a page with this index is of the index that is asked for, if one is
abbrev pub has_index : Option ℕ → Option ℕ → Bool
has_index None index = true
has_index (Some id) None = false
has_index (Some id) (Some other) = other == id

-- a line counts a page of this space with this index
abbrev pub counts : ℕ × Option ℕ → ℕ → Option ℕ → Bool
counts key space index = (space == key.0) && has_index key.1 index

abbrev pub no_page : Tally
no_page = record { leaves = 0; pages = 0; newest = 0 }

-- a tally with one page more
abbrev pub with_page : Tally → Version → Tally
with_page tally version = record {
  leaves = tally.leaves + cond version.leaf 1 0;
  pages = tally.pages + 1;
  newest = max tally.newest version.lsn;
}

-- the tally of a line, which may be new, with one page more
abbrev pub next_tally : Option Tally → Version → Tally
next_tally tally version = with_page (unwrap_or tally no_page) version

-- what a line has after a page that it counts, or doesn't
abbrev pub tally_after : Bool → Option Tally → Version → Option Tally
tally_after true tally version = Some (next_tally tally version)
tally_after false tally version = tally

-- each line that counts the page has one page more
abbrev pub CountsPage : BTreeMap (ℕ × Option ℕ) Tally → BTreeMap (ℕ × Option ℕ) Tally → ℕ → Version → Type 0
CountsPage old now space version = (key : ℕ × Option ℕ)
    → get line_cmp now key ≡ tally_after (counts key space version.index) (get line_cmp old key) version

-- the pages that a line counts
abbrev pub counted_in : ℕ × Option ℕ → List ((ℕ × ℕ) × Version) → List ((ℕ × ℕ) × Version)
counted_in key pages = filter (λ page. counts key page.0.0 page.1.index) pages

-- the tally of some pages, at least one
pub record IsTallyOf (pages : List ((ℕ × ℕ) × Version)) (tally : Tally) : Type 0 where
  pub pages_are : tally.pages ≡ length pages
  pub leaves_are : tally.leaves ≡ length (filter (λ page. page.1.leaf) pages)
  pub newest_is : IsGreatest (map (λ page. page.1.lsn) pages) tally.newest

abbrev pub IsTally : List ((ℕ × ℕ) × Version) → Option Tally → Type 0
IsTally pages None = pages ≡ []
IsTally pages (Some tally) = IsTallyOf pages tally

-- each line has the tally of the pages that it counts, and there is none that counts no page
abbrev pub AreTallies : List ((ℕ × ℕ) × Version) → BTreeMap (ℕ × Option ℕ) Tally → Type 0
AreTallies pages tallies = (key : ℕ × Option ℕ) → IsTally (counted_in key pages) (get line_cmp tallies key)

-- one page more can be counted
pub record HasRoom (tally : Tally) : Type 0 where
  pub pages_fit : tally.pages < 2 ^ 63
  pub leaves_fit : tally.leaves < 2 ^ 63

abbrev pub HaveRoom : BTreeMap (ℕ × Option ℕ) Tally → Type 0
HaveRoom tallies = (key : ℕ × Option ℕ) → IfSome (get line_cmp tallies key) HasRoom

-- the line of a tally
abbrev pub line_of : (ℕ × Option ℕ) × Tally → Line
line_of entry = record {
  space = entry.0.0;
  index = entry.0.1;
  leaves = entry.1.leaves;
  pages = entry.1.pages;
  newest = entry.1.newest;
}

abbrev pub lines_of : BTreeMap (ℕ × Option ℕ) Tally → List Line
lines_of tallies = map line_of tallies.entries
