-- The lines of a catalogue's tallies are the listing of the image.
use Rattle.std.proofs.Common.{◌≡◌, ℕ, ◌==◌, ◌&&◌, Bool, true, false, cond, IsTrue, List, length, map, filter}
use Rattle.std.proofs.Common.{Option, Some, None, refl, sym, ap, ◌∙◌, subst, inl, inr}
use Rattle.std.specs.List.{All, AllPairs, Contains}
use Rattle.std.specs.List.Sorted.{IsStrictlySortedBy}
use Rattle.std.specs.Ordering.{nat_cmp}
use Rattle.std.specs.Option.{option_cmp}
use Rattle.std.specs.declared.cmp.Ordering.TheVariants.{Less}
use Rattle.std.specs.BTreeMap.{BTreeMap, get, IsOrdered}
use Rattle.std.proofs.lemmas.List.{length-map}
use Rattle.std.proofs.lemmas.List.Elements.{All-map, All-weaker, filter_agree}
use Rattle.index_page.specs.Header.{index_id_of}
use Rattle.std.proofs.lemmas.Simd.{map-map}
use Rattle.std.proofs.lemmas.Map.Views.{All-found, btree_map_get_iff}
use Rattle.page_source.proofs.Members.{contains_none, contains_filter}
use Rattle.page_source.proofs.Lists.{contains_map}
use Rattle.page_scan.specs.Newest.{IsGreatest}
use Rattle.image_listing.specs.declared.catalogue.Version.{Version}
use Rattle.image_listing.specs.declared.lines.Tally.{Tally}
use Rattle.image_listing.specs.Listing.{Sight, Line, is_index_page, is_of_index, is_counted, is_leaf, counted_by}
use Rattle.image_listing.specs.Listing.{IsLine, ComesFirst, StandsBefore, HasLine, IsListing}
use Rattle.image_listing.specs.Versions.{page_cmp, index_of, IsCatalogue}
use Rattle.image_listing.specs.Tallies.{line_cmp, has_index, counts, counted_in, IsTallyOf, IsTally, AreTallies}
use Rattle.image_listing.specs.Tallies.{line_of, lines_of}
use Rattle.image_listing.proofs.Orders.{line_total, line_exact}
use Rattle.image_listing.proofs.LineText.{Counted}
use Rattle.image_listing.proofs.Counting.{Kept}
use Rattle.image_listing.proofs.Members.{filter_map_of}
use Rattle.image_listing.proofs.Sights.{kept_of, has_sights, pairs_from_sorted, then_less, number_less, number_same}

-- the index that is kept tells as much as the page
same_index : (index : Option ℕ) (page : List ℕ) → has_index index (index_of page) ≡ is_of_index index page
same_index None page = refl
same_index (Some id) page = by_type (is_index_page page)
  where
    by_type : (is : Bool) → has_index (Some id) (cond is (Some (index_id_of page)) None)
        ≡ (is && (index_id_of page == id))
    by_type true = refl
    by_type false = refl

-- what is kept of the pages that a line counts
same_counted : (key : ℕ × Option ℕ) (sights : List Sight)
    → counted_in key (map kept_of sights) ≡ map kept_of (filter (is_counted key.0 key.1) sights)
same_counted key sights =
    filter_map_of (λ (page : Kept). counts key page.0.0 page.1.index) kept_of sights
    ∙ ap (map kept_of) (filter_agree (λ (sight : Sight). counts key sight.space (index_of sight.page))
    (is_counted key.0 key.1)
    (λ sight. ap (λ (of : Bool). (sight.space == key.0) && of) (same_index key.1 sight.page)) sights)

-- a line that counts these pages
line_counted : (sights : List Sight) (entry : Counted)
    → IsTallyOf (map kept_of (counted_by (line_of entry) sights)) entry.1 → IsLine sights (line_of entry)
line_counted sights entry is =
    let pages = counted_by (line_of entry) sights in
    record {
      pages = is.pages_are ∙ length-map pages kept_of;
      leaves = is.leaves_are ∙ ap length (filter_map_of (λ (page : Kept). page.1.leaf) kept_of pages)
          ∙ length-map (filter is_leaf pages) kept_of;
      newest = subst (λ (lsns : List ℕ). IsGreatest lsns entry.1.newest)
          (map-map (λ (page : Kept). page.1.lsn) kept_of pages) is.newest_is;
    }

tallied : (sights : List Sight) (tallies : BTreeMap (ℕ × Option ℕ) Tally) → AreTallies (map kept_of sights) tallies
    → (key : ℕ × Option ℕ) → IsTally (map kept_of (filter (is_counted key.0 key.1) sights)) (get line_cmp tallies key)
tallied sights tallies are key =
    subst (λ (pages : List Kept). IsTally pages (get line_cmp tallies key)) (same_counted key sights) (are key)

each_line : (sights : List Sight) (tallies : BTreeMap (ℕ × Option ℕ) Tally) → IsOrdered line_cmp tallies
    → AreTallies (map kept_of sights) tallies → All (IsLine sights) (lines_of tallies)
each_line sights tallies rise are =
    All-map (IsLine sights) line_of tallies.entries
    (All-weaker (λ (entry : Counted). get line_cmp tallies entry.0 ≡ Some entry.1)
    (λ (entry : Counted). IsLine sights (line_of entry))
    (λ entry is. line_counted sights entry
    (subst (λ (found : Option Tally). IsTally (map kept_of (counted_by (line_of entry) sights)) found) is
    (tallied sights tallies are entry.0)))
    tallies.entries (All-found line_total tallies rise))

-- each page is counted in the line of its space, and of its index
has_line : (sights : List Sight) (tallies : BTreeMap (ℕ × Option ℕ) Tally) → IsOrdered line_cmp tallies
    → AreTallies (map kept_of sights) tallies → (space : ℕ) (index : Option ℕ) (sight : Sight) → Contains sights sight
    → IsTrue (is_counted space index sight) → HasLine (lines_of tallies) space index
has_line sights tallies rise are space index sight has is =
    by_found (get line_cmp tallies (space, index)) refl (tallied sights tallies are (space, index))
  where
    by_found : (found : Option Tally) → get line_cmp tallies (space, index) ≡ found
        → IsTally (map kept_of (filter (is_counted space index) sights)) found → HasLine (lines_of tallies) space index
    by_found None gives none =
        absurd (contains_none (kept_of sight) (subst (λ (pages : List Kept). Contains pages (kept_of sight)) none
        (contains_map kept_of (filter (is_counted space index) sights) sight
        (contains_filter (is_counted space index) sights sight has is))))
    by_found (Some tally) gives of =
        let entry : Counted = ((space, index), tally) in
        let member = (btree_map_get_iff line_total line_exact tallies rise (space, index) tally).0 gives in
        (line_of entry, contains_map line_of tallies.entries entry member, refl, refl)

index_first : (a b : Option ℕ) → option_cmp nat_cmp a b ≡ Less → ComesFirst a b
index_first None None e = absurd (cc)
index_first None (Some id) e = tt
index_first (Some id) None e = absurd (cc)
index_first (Some one) (Some other) e = number_less one other e

stands_before : (a b : Line) → line_cmp (a.space, a.index) (b.space, b.index) ≡ Less → StandsBefore a b
stands_before a b e =
    elim (then_less (nat_cmp a.space b.space) (option_cmp nat_cmp a.index b.index) e) [
      | inl less ↦ inl (number_less a.space b.space less)
      | inr same ↦ inr (number_same a.space b.space same.0, index_first a.index b.index same.1)
    ]

abbrev key_of : Line → ℕ × Option ℕ
key_of line = (line.space, line.index)

lines_rise : (tallies : BTreeMap (ℕ × Option ℕ) Tally) → IsOrdered line_cmp tallies
    → AllPairs StandsBefore (lines_of tallies)
lines_rise tallies rise =
    pairs_from_sorted line_cmp StandsBefore key_of stands_before (lines_of tallies)
    (subst (IsStrictlySortedBy line_cmp) (sym (map-map key_of line_of tallies.entries)) rise)

pub is_listing : (image : List ℕ) (pages : BTreeMap (ℕ × ℕ) Version) (tallies : BTreeMap (ℕ × Option ℕ) Tally)
    → IsOrdered page_cmp pages → IsCatalogue image pages → IsOrdered line_cmp tallies
    → AreTallies pages.entries tallies → IsListing image (lines_of tallies)
is_listing image pages tallies pages_rise all rise are =
    let has = has_sights image pages pages_rise all in
    let mine = subst (λ (list : List Kept). AreTallies list tallies) (sym has.of.same) are in
    record {
      sights = has.of.sights;
      are = has.are;
      rise = lines_rise tallies rise;
      each = each_line has.of.sights tallies rise mine;
      all = has_line has.of.sights tallies rise mine;
    }
