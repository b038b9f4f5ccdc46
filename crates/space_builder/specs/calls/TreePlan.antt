-- What a tree is put by, and its pages.
use Rattle.std.specs.Prelude.{◌≡◌, ℕ, ◌+◌, ◌-◌, ◌*◌, ◌<◌, ◌≤◌, ◌==◌, List, [], length, map, slice_index}
use Rattle.std.specs.Prelude.{slice_index_or, All, IfSome}
use Rattle.std.specs.List.{range_with_len}
use Rattle.page_source.specs.declared.objects.PageStore.{Ghosts as StoreOf}
use Rattle.column_values.specs.Types.{Fields}
use Rattle.compact_record.specs.Writing.{FitFields}
use Rattle.index_page.specs.Page.{is_lowest_first}
use Rattle.tree_walk.specs.TreeChecks.{before, after}
use Rattle.page_packer.specs.Packing.{is_leaf}
use Rattle.page_packer.specs.Entries.{Entry, entry_at, packing_of}
use Rattle.space_layout.specs.Numbers.{IsShape, size_at, segment_page, space_pages}
use Rattle.space_layout.specs.NumberedPages.{Numbered}
use Rattle.tree_layout.specs.Division.{Level, divided, tree_levels, level_counts, FitsAlone, CanDivide}
use Rattle.tree_layout.specs.Places.{tree_number, FitsSegments}
use Rattle.space_builder.specs.declared.entries.Pointer.{Pointer}
use Rattle.space_builder.specs.declared.tree_pages.TreeSpot.{TreeSpot}
use Rattle.space_builder.specs.declared.tree_plan.TreePlan.{TreePlan}
use Rattle.space_builder.specs.layout.TreePage.{fields_of_level, pages_of_tree}
use Rattle.space_builder.specs.layout.TreeSpot.{page_at_spot}

-- the fields of the records of level l, and how many pages it has
abbrev pub fields_in : TreePlan → ℕ → Fields
fields_in plan l = fields_of_level plan.leaf.now plan.node.now l

abbrev pub width_in : TreePlan → ℕ → ℕ
width_in plan l = slice_index plan.counts.now l

-- the number of page k of level l, and the numbers of so many pages of it
unfoldable pub number_in : TreePlan → ℕ → ℕ → ℕ
number_in plan l k = tree_number (segment_page plan.sizes.now) plan.counts.now plan.index l k

abbrev pub first_numbers : TreePlan → ℕ → ℕ → List ℕ
first_numbers plan l width = map (number_in plan l) (range_with_len 0 width)

abbrev pub numbers_in : TreePlan → ℕ → List ℕ
numbers_in plan l = first_numbers plan l (width_in plan l)

-- the tree has a page k on level l
pub record HasPage (plan : TreePlan) (l k : ℕ) : Type 0 where
  pub inside : l < length plan.counts.now
  pub within : k < width_in plan l

-- where page k of level l stands, if the level has so many pages, and the tree so many levels
abbrev pub spot_among : TreePlan → ℕ → ℕ → ℕ → ℕ → TreeSpot
spot_among plan width height l k =
    record {
      number = number_in plan l k;
      prev = before (first_numbers plan l width) k;
      next = after (first_numbers plan l width) k;
      index = plan.index;
      root = l == height - 1;
    }

unfoldable pub spot_in : TreePlan → ℕ → ℕ → TreeSpot
spot_in plan l k = spot_among plan (width_in plan l) (length plan.counts.now) l k

-- the page at a spot, packed of these entries as page k of level l
abbrev pub packed_at : TreePlan → ℕ → ℕ → List Entry → TreeSpot → List ℕ
packed_at plan l k entries spot =
    page_at_spot (packing_of (fields_in plan l) l (is_lowest_first (is_leaf l) (k == 0)) entries) spot

-- these pages from the left end of level l on, each with its number
unfoldable pub laid_pages : TreePlan → ℕ → Level → List Numbered
laid_pages plan l pages =
    map (λ k. (number_in plan l k, packed_at plan l k (slice_index_or pages k []) (spot_in plan l k)))
    (range_with_len 0 (length pages))

-- the pointer to page k of level l, by the leaf entry with whose key it begins
abbrev pub pointer_in : TreePlan → ℕ → List ℕ → ℕ → Pointer
pointer_in plan l firsts k = record { first = slice_index firsts k; page = number_in plan l k }

-- the pages of the tree of these leaf entries
abbrev pub tree_pages : TreePlan → List Entry → List Numbered
tree_pages plan entries =
    pages_of_tree plan.leaf.now plan.node.now (number_in plan)
    (tree_levels plan.leaf.now plan.node.now (number_in plan) entries) plan.index

-- the index has its two segments, with room for its pages
pub record IsPlan (plan : TreePlan) : Type 0 where
  pub shape : IsShape plan.sizes.now
  pub index : 2 * plan.index + 1 < length plan.sizes.now
  pub fits : FitsSegments plan.counts.now (size_at plan.sizes.now) plan.index

-- the store has room for all pages, where it tells its size
abbrev pub HasRoomFor : {T : Type 0} → StoreOf T → T → TreePlan → Type 0
HasRoomFor g store plan = IfSome (g.told store).size (λ size. space_pages plan.sizes.now ≤ size)

-- the page begins with this one of the entries, if it has any
abbrev pub BeginsWith : List Entry → List Entry → ℕ → Type 0
BeginsWith entries page start =
    0 < length page → (start < length entries) × (entry_at page 0 ≡ entry_at entries start)

-- each page begins with the entry at its place in the list
pub record BeginAt (entries : List Entry) (pages : Level) (starts : List ℕ) : Type 0 where
  pub count : length starts ≡ length pages
  pub each : (k : ℕ) → k < length pages
      → BeginsWith entries (slice_index_or pages k []) (slice_index starts k)

-- these entries may be put as level l
pub record CanPutLevel (plan : TreePlan) (l : ℕ) (entries : List Entry) : Type 0 where
  pub is_plan : IsPlan plan
  pub inside : l < length plan.counts.now
  pub fit : All (FitFields (fields_in plan l)) entries
  pub alone : All (FitsAlone (fields_in plan l)) entries
  pub width : length (divided (fields_in plan l) entries) ≡ width_in plan l

-- these entries may be put as the leaves of the tree: the plan counts the pages of its levels
pub record CanPutTree (plan : TreePlan) (entries : List Entry) : Type 0 where
  pub is_plan : IsPlan plan
  pub divide : CanDivide plan.leaf.now plan.node.now entries
  pub counted : plan.counts.now ≡ level_counts (tree_levels plan.leaf.now plan.node.now (λ l k. 0) entries)
