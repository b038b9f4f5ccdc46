-- A file that holds a tree whose levels are laid out, each page with its number.
use Rattle.std.specs.Prelude.{◌≡◌, ◌≢◌, ℕ, ◌+◌, ◌*◌, ◌<◌, ◌≤◌, ◌==◌, Bool, if◌then◌else◌, List, [], length}
use Rattle.std.specs.Prelude.{slice_index, slice_index_or}
use Rattle.page_source.specs.Pages.{fil_null}
use Rattle.fil_frame.specs.Kinds.{index_kind}
use Rattle.column_values.specs.Types.{Fields, AreOfOneIndex}
use Rattle.index_page.specs.Header.{level_of, index_id_of, record_count, records_of}
use Rattle.index_page.specs.Page.{IsIndexPage, HasMinimumMark}
use Rattle.space_audit.specs.Space.{IsPageOf}
use Rattle.tree_walk.specs.Index.{Index, page_in, fields_on}
use Rattle.tree_walk.specs.Segments.{NamesSegments, segment_at, leaf_segment, top_segment}
use Rattle.tree_walk.specs.Place.{is_leaf_level, IsBeside}
use Rattle.tree_walk.specs.TreeChecks.{before, after}
use Rattle.tree_layout.specs.Entries.{Entry, HoldsEntry}
use Rattle.tree_layout.specs.Division.{Level}
use Rattle.tree_layout.specs.Levels.{AreLevels, EachPage, page_entries, top_of, is_top, numbers_at}

-- an index page of this level whose records are these entries
pub record IsBuiltPage (fields : Fields) (page : List ℕ) (level : ℕ) (root leftmost : Bool) (entries : List Entry)
    : Type 0 where
  pub at_level : level_of page ≡ level
  pub is_page : IsIndexPage page fields (is_leaf_level level) root leftmost (records_of page)
  pub marks : HasMinimumMark page (is_leaf_level level) leftmost (records_of page)
  pub count : record_count page ≡ length entries
  pub holds : (i : ℕ) → i < length entries
      → HoldsEntry page fields (slice_index (records_of page) i) (slice_index_or entries i [])

-- the segment of the pages of a level: the root is one of those above the leaves, also where it is a leaf
abbrev pub segment_of_level : Index → List Level → ℕ → ℕ
segment_of_level index levels l = if is_top levels l then top_segment index else segment_at index l

-- the file holds the tree of these levels; page k of level l has the number `numbers l k`
pub record HoldsTree (index : Index) (numbers : ℕ → ℕ → ℕ) (levels : List Level) : Type 0 where
  pub one_index : AreOfOneIndex index.leaf index.node
  pub are_levels : AreLevels index.leaf index.node numbers levels
  pub few : length levels ≤ 51
  pub root : index.root ≡ numbers (top_of levels) 0
  pub segments : NamesSegments index
  pub pages : EachPage levels (λ l k. IsBuiltPage (fields_on index l) (page_in index (numbers l k)) l (is_top levels l)
      (k == 0) (page_entries levels l k))
  pub id : ℕ
  pub ids : EachPage levels (λ l k. index_id_of (page_in index (numbers l k)) ≡ id)
  pub beside : EachPage levels (λ l k. IsBeside (page_in index (numbers l k)) (before (numbers_at levels numbers l) k)
      (after (numbers_at levels numbers l) k))
  pub used : EachPage levels (λ l k. IsPageOf index.file (segment_of_level index levels l) index_kind (numbers l k))
  pub small : EachPage levels (λ l k. numbers l k < fil_null)
  pub distinct : EachPage levels (λ l k. EachPage levels (λ m j. numbers l k ≡ numbers m j → (l ≡ m) × (k ≡ j)))

-- no page of one tree is one of the other
abbrev pub ShareNoPages : (ℕ → ℕ → ℕ) → List Level → (ℕ → ℕ → ℕ) → List Level → Type 0
ShareNoPages numbers levels others more =
    EachPage levels (λ l k. EachPage more (λ m j. numbers l k ≢ others m j))

-- the file holds a tree for each of these indexes, which has two segments of the file, one behind the other
pub record HoldsTrees (index : ℕ → Index) (count : ℕ) (numbers : ℕ → ℕ → ℕ → ℕ) (levels : ℕ → List Level)
    : Type 0 where
  pub trees : (j : ℕ) → j < count → HoldsTree (index j) (numbers j) (levels j)
  pub apart : (i j : ℕ) → i < j → j < count → ShareNoPages (numbers i) (levels i) (numbers j) (levels j)
  pub top : (j : ℕ) → j < count → top_segment (index j) ≡ 2 * j
  pub leaf : (j : ℕ) → j < count → leaf_segment (index j) ≡ 2 * j + 1
