-- The checks of one page at its place, on values alone.
use Rattle.std.specs.Prelude.{◌≡◌, ℕ, ◌-◌, ◌<◌, ◌≤◌, ⊤, Bool, true, false, ◌==◌, List, Option}
use Rattle.std.specs.Prelude.{Some, None}
use Rattle.page_source.specs.declared.rule.Rule.TheVariants.{ChildPlace, IndexId, Sibling, Level, Separator}
use Rattle.page_source.specs.declared.rule.Rule.TheVariants.{MinimumMark}
use Rattle.page_source.specs.declared.rule.Fault.{Fault}
use Rattle.page_source.specs.Verdict.{Then}
use Rattle.page_source.specs.Answers.{Holds}
use Rattle.page_source.specs.Checks.{AtPage}
use Rattle.fil_frame.specs.Kinds.{index_kind}
use Rattle.fil_frame.specs.Frame.{previous_page, next_page}
use Rattle.tree_walk.specs.Index.{Index, page_in, fields_on}
use Rattle.space_audit.specs.Space.{IsPageOf}
use Rattle.column_values.specs.Types.{Fields}
use Rattle.column_values.specs.Order.{Key, IsBelow, AreEqualKeys}
use Rattle.compact_record.specs.Reading.{key_kinds}
use Rattle.index_page.specs.Header.{level_of, index_id_of, record_count, records_of}
use Rattle.index_page.specs.Page.{HasMinimumMark, is_lowest_first}
use Rattle.index_page.specs.PageChecks.{PageChecks}
use Rattle.tree_walk.specs.declared.place.Stand.{Stand}
use Rattle.tree_walk.specs.Records.{record_key}

-- the leaves are level 0
abbrev pub is_leaf_level : ℕ → Bool
is_leaf_level level = level == 0

-- where a page stands in its tree: its level and separators, and whether it is the root or leftmost
pub record Spot : Type 0 where
  pub page : ℕ
  pub level : ℕ
  pub low : Option Key
  pub high : Option Key
  pub root : Bool
  pub leftmost : Bool

-- the spot of a page that stands between these separators
abbrev pub spot_between : Stand → Option Key → Option Key → Spot
spot_between stand low high = record {
  page = stand.page;
  level = stand.level;
  low = low;
  high = high;
  root = stand.root;
  leftmost = stand.leftmost;
}

-- a page of an index that this segment uses, and that wasn't taken before
pub record IsPagePlace (file : List ℕ) (taken : Bool) (segment n : ℕ) : Type 0 where
  pub page : IsPageOf file segment index_kind n
  pub new : taken ≡ false

-- the page's neighbours are these
abbrev pub IsBeside : List ℕ → ℕ → ℕ → Type 0
IsBeside page previous next = (previous_page page ≡ previous) × (next_page page ≡ next)

-- the level is the one below the parent's; that of a root is at most 50
abbrev pub HasSpotLevel : List ℕ → ℕ → Type 0
HasSpotLevel page level = (level_of page ≡ level) × (level ≤ 50)

-- the first key isn't below the low separator; above the leaves it is equal to it
abbrev pub HasLow : List ℕ → Fields → ℕ → Option Key → Type 0
HasLow page fields level None = ⊤
HasLow page fields level (Some low) =
    (¬ (IsBelow (key_kinds fields) (record_key page fields 0) low))
    × (0 < level → AreEqualKeys (key_kinds fields) (record_key page fields 0) low)

-- the last key is below the high separator; the lowest first key counts as below it
abbrev pub HasLastBelow : List ℕ → Fields → Bool → Option Key → Type 0
HasLastBelow page fields lowest_first None = ⊤
HasLastBelow page fields lowest_first (Some high) =
    ((record_count page ≡ 1) × (lowest_first ≡ true) → ⊥)
    → IsBelow (key_kinds fields) (record_key page fields (record_count page - 1)) high

-- the first and the last key lie between the separators
pub record HasSeparators (page : List ℕ) (fields : Fields) (spot : Spot) : Type 0 where
  pub low : HasLow page fields spot.level spot.low
  pub high : HasLastBelow page fields (is_lowest_first (is_leaf_level spot.level) spot.leftmost) spot.high

-- the checks of a page at its spot: its level, its records and their keys
abbrev pub NodeAt : List ℕ → Fields → Spot → Option Fault → Type 0
NodeAt page fields spot =
    Then (Holds Level spot.page (HasSpotLevel page spot.level))
    (Then (AtPage spot.page (PageChecks page fields (is_leaf_level spot.level) spot.root spot.leftmost))
    (Then (Holds Separator spot.page (HasSeparators page fields spot))
    (Holds MinimumMark spot.page (HasMinimumMark page (is_leaf_level spot.level) spot.leftmost (records_of page)))))

-- the checks of a page of an index at its spot, between these neighbours
abbrev pub SpotAt : List ℕ → Fields → ℕ → Spot → ℕ → ℕ → Option Fault → Type 0
SpotAt page fields id spot previous next =
    Then (Holds IndexId spot.page (index_id_of page ≡ id))
    (Then (Holds Sibling spot.page (IsBeside page previous next))
    (NodeAt page fields spot))

-- the checks of a place: of the pointer in the page `holder` to a page that may be taken, and of that page
abbrev pub PlaceAt : Index → ℕ → ℕ → Bool → ℕ → Spot → ℕ → ℕ → Option Fault → Type 0
PlaceAt index segment id taken holder spot previous next =
    Then (Holds ChildPlace holder (IsPagePlace index.file taken segment spot.page))
    (SpotAt (page_in index spot.page) (fields_on index spot.level) id spot previous next)
