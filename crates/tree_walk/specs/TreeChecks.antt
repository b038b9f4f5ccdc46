-- The checks of one tree, level by level from left to right. `taken` are the pages of the trees before it, `named` the
-- segments that those trees name.
use Rattle.std.specs.Prelude.{◌≡◌, ℕ, suc, ◌+◌, ◌-◌, ◌==◌, Bool, true, false, if◌then◌else◌, List, ◌∷◌, ◌++◌, length}
use Rattle.std.specs.Prelude.{take, slice_get, slice_index_or, Option, Some, None}
use Rattle.page_source.specs.declared.rule.Rule.TheVariants.{RootPlace, RootSegments}
use Rattle.page_source.specs.declared.rule.Fault.{Fault}
use Rattle.page_source.specs.Pages.{fil_null}
use Rattle.page_source.specs.Verdict.{Then, Each}
use Rattle.page_source.specs.Answers.{Holds}
use Rattle.fil_frame.specs.Kinds.{index_kind}
use Rattle.space_audit.specs.Space.{IsPageOf}
use Rattle.space_audit.specs.Owners.{IsUsedBy}
use Rattle.column_values.specs.Order.{Key}
use Rattle.tree_walk.specs.Index.{Index, Row, page_in, fields_on, root_level, index_id, child_of, key_in, children}
use Rattle.tree_walk.specs.Index.{row_at, places, reached}
use Rattle.tree_walk.specs.Segments.{NamesSegments, leaf_segment, top_segment, segment_at}
use Rattle.space_audit.specs.Marks.{seen}
use Rattle.tree_walk.specs.Place.{Spot, PlaceAt, SpotAt}

-- the number of the page before place j of a level, and of the page after it
abbrev pub before : List ℕ → ℕ → ℕ
before level j = slice_index_or (fil_null ∷ level) j fil_null

abbrev pub after : List ℕ → ℕ → ℕ
after level j = slice_index_or level (j + 1) fil_null

-- the separators of place j: the key of its pointer, but for the first, and of the next pointer
abbrev pub low_of : Index → List Row → ℕ → Option Key
low_of index rows j = if j == 0 then None else Some (key_in index (row_at rows j))

abbrev pub held_key_in : Index → Option Row → Option Key
held_key_in index None = None
held_key_in index (Some row) = Some (key_in index row)

abbrev pub high_of : Index → List Row → ℕ → Option Key
high_of index rows j = held_key_in index (slice_get rows (j + 1))

-- where the page of place j stands
abbrev pub spot_of : Index → ℕ → List Row → ℕ → Spot
spot_of index level rows j = record {
  page = child_of index (row_at rows j);
  level = level;
  low = low_of index rows j;
  high = high_of index rows j;
  root = false;
  leftmost = j == 0;
}

-- the checks at place j of these places, whose page was taken before or not
abbrev pub PlaceWith : Index → ℕ → Bool → List Row → ℕ → Option Fault → Type 0
PlaceWith index level taken rows j =
    PlaceAt index (segment_at index level) (index_id index) taken (row_at rows j).page (spot_of index level rows j)
    (before (children index rows) j) (after (children index rows) j)

-- the checks at place j of these places, where some pages were taken at the start or stand in a list
abbrev pub PlaceCheck : Index → ℕ → (ℕ → Bool) → List ℕ → List Row → ℕ → Option Fault → Type 0
PlaceCheck index level taken list rows j =
    PlaceWith index level (seen taken (list ++ take j (children index rows)) (child_of index (row_at rows j))) rows j

-- the checks of all places, left to right
abbrev pub LevelCheck : Index → ℕ → (ℕ → Bool) → List ℕ → List Row → Option Fault → Type 0
LevelCheck index level taken list rows = Each (length rows) (PlaceCheck index level taken list rows)

-- the root may be that of a new tree: a page of an index that some segment uses, and that wasn't taken before
pub record IsRootPlace (file : List ℕ) (taken : Bool) (root : ℕ) : Type 0 where
  pub page : (segment : ℕ) × IsPageOf file segment index_kind root
  pub new : taken ≡ false

-- the segments that the root names are new, and the one for the pages above the leaves uses it
pub record HasNewSegments (index : Index) (named : ℕ → Bool) : Type 0 where
  pub names : NamesSegments index
  pub leaf_new : named (leaf_segment index) ≡ false
  pub top_new : named (top_segment index) ≡ false
  pub owner : IsUsedBy index.file (top_segment index) index.root

-- the root stands between no separators
abbrev pub root_spot : Index → Spot
root_spot index = record {
  page = index.root;
  level = root_level index;
  low = None;
  high = None;
  root = true;
  leftmost = true;
}

abbrev pub RootCheck : Index → (ℕ → Bool) → (ℕ → Bool) → Option Fault → Type 0
RootCheck index taken named =
    Then (Holds RootPlace index.root (IsRootPlace index.file (taken index.root) index.root))
    (Then (Holds RootSegments index.root (HasNewSegments index named))
    (SpotAt (page_in index index.root) (fields_on index (root_level index)) (index_id index) (root_spot index) fil_null
    fil_null))

-- the checks of the level below a depth
abbrev pub DepthCheck : Index → (ℕ → Bool) → ℕ → Option Fault → Type 0
DepthCheck index taken depth =
    LevelCheck index (root_level index - suc depth) taken (reached index depth) (places index depth)

-- the checks of the tree
abbrev pub TreeChecks : Index → (ℕ → Bool) → (ℕ → Bool) → Option Fault → Type 0
TreeChecks index taken named =
    Then (RootCheck index taken named)
    (Each (root_level index) (DepthCheck index taken))
