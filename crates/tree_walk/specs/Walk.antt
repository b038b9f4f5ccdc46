-- A walk along the pointers of a level by next fields.
use Rattle.std.specs.Prelude.{◌≡◌, ◌==◌, if◌then◌else◌, [], ◌∷◌, ◌++◌, Bool, true, false, ℕ, ◌+◌, ◌<◌, ◌≤◌, not, List}
use Rattle.std.specs.Prelude.{length, slice_index_or}
use Rattle.std.specs.Prelude.{take, count_by, All, Option, None, Some, IfSome, Result, Ok, Err, ⊤}
use Rattle.page_source.specs.declared.rule.Fault.{Fault}
use Rattle.page_source.specs.declared.checks.Halt.{Halt}
use Rattle.page_source.specs.declared.checks.Halt.TheVariants.{Broken, Source}
use Rattle.column_values.specs.Types.{Fields}
use Rattle.compact_record.specs.Keys.{child_at}
use Rattle.tree_walk.specs.declared.walk.Walk.{Walk}
use Rattle.tree_walk.specs.Records.{IsHeld, held_key}
use Rattle.tree_walk.specs.Place.{Spot, PlaceAt, spot_between}
use Rattle.tree_walk.specs.Index.{held_child, child_of, row_at}
use Rattle.tree_walk.specs.declared.cursor.Cursor.{Cursor}
use Rattle.tree_walk.specs.declared.cursor.Next.{Next}
use Rattle.tree_walk.specs.declared.cursor.Next.TheVariants.{Here, Ahead, End}
use Rattle.tree_walk.specs.declared.place.Stand.{Stand}
use Rattle.tree_walk.specs.declared.place.tally.Tally.{Tally}
use Rattle.tree_walk.specs.declared.level.Aim.{Aim}
use Rattle.tree_walk.specs.declared.level.Place.{Place}
use Rattle.tree_walk.specs.declared.level.Level.{Level}
use Rattle.tree_walk.specs.declared.tree.root.Top.{Top}
use Rattle.tree_walk.specs.declared.ends.TreeEnds.{TreeEnds}
use Rattle.compact_record.specs.Header.{is_deleted, is_minimum}
use Rattle.compact_record.specs.Whole.{LiesWhole}
use Rattle.index_page.specs.Header.{records_of}
use Rattle.space_audit.specs.Marks.{Marked}
use Rattle.tree_walk.specs.Index.{Index, page_in, pages_at, rows_of, places, children, root_level, index_id}
use Rattle.tree_walk.specs.Index.{leaf_pages}
use Rattle.tree_walk.specs.Index.{Row, leaf_rows, is_deleted_row, is_live_row}
use Rattle.tree_walk.specs.TreeChecks.{before, PlaceWith}
use Rattle.tree_walk.specs.Segments.{leaf_segment, top_segment, segment_at}
use Rattle.tree_walk.specs.Ends.{lies_whole}
use Rattle.tree_walk.specs.Facts.{LevelFacts}

-- a cursor at pointer j of a level: record k of the i-th page of the level
pub record StandsAt (index : Index) (depth : ℕ) (cursor : Cursor) (page : List ℕ) (j i k : ℕ) : Type 0 where
  pub within : i < length (pages_at index depth)
  pub number : cursor.number ≡ slice_index_or (pages_at index depth) i 0
  pub held : page ≡ page_in index cursor.number
  pub slot : k < length (records_of page)
  pub origin : cursor.origin ≡ slice_index_or (records_of page) k 0
  pub place : j ≡ length (rows_of index (take i (pages_at index depth))) + k
  pub more : cursor.more + (i + 1) ≡ length (pages_at index depth)

abbrev pub Stands : Index → ℕ → Cursor → List ℕ → ℕ → Type 0
Stands index depth cursor page j = (i : ℕ) × ((k : ℕ) × StandsAt index depth cursor page j i k)

-- where the pointer behind pointer j stands: on the same page, at the head of the next one, or nowhere
abbrev pub Follows : Index → ℕ → Next → List ℕ → List ℕ → ℕ → Type 0
Follows index depth (Here cursor) page ahead j = Stands index depth cursor page (j + 1)
Follows index depth (Ahead cursor) page ahead j = Stands index depth cursor ahead (j + 1)
Follows index depth End page ahead j = length (places index depth) ≤ j + 1

-- the pointer behind pointer j was found; the search never breaks off
abbrev pub FindsNext : Index → ℕ → ℕ → List ℕ → List ℕ → Result Next Halt → Type 0
FindsNext index depth j page ahead (Ok next) = Follows index depth next page ahead j
FindsNext index depth j page ahead (Err (Broken fault)) = ⊥
FindsNext index depth j page ahead (Err Source) = ⊤

-- how many pages of the level come behind the next node pointer
abbrev pub more_after : Next → ℕ
more_after (Here cursor) = cursor.more
more_after (Ahead cursor) = cursor.more
more_after End = 0

-- the page that the next node pointer stands on, and its origin there
abbrev pub page_after : Next → List ℕ → List ℕ → List ℕ
page_after (Ahead cursor) page ahead = ahead
page_after (Here cursor) page ahead = page
page_after End page ahead = page

abbrev pub origin_after : Next → Option ℕ
origin_after (Here cursor) = Some cursor.origin
origin_after (Ahead cursor) = Some cursor.origin
origin_after End = None

-- the page that the node pointer in hand leads to
abbrev pub child_in_hand : Walk → Fields → Place → ℕ
child_in_hand walk node place = child_at walk.parent node place.cursor.origin

-- the page that the next node pointer leads to, or no page
abbrev pub next_in_hand : Walk → Fields → Next → ℕ
next_in_hand walk node next = held_child (page_after next walk.parent walk.after) node (origin_after next)

-- where the page stands that the node pointer in hand leads to: between its key and that of the next one
abbrev pub spot_in_hand : Walk → Fields → Aim → Place → Next → Spot
spot_in_hand walk node aim place next = record {
  page = child_in_hand walk node place;
  level = aim.level;
  low = held_key walk.parent node (if place.j == 0 then None else Some place.cursor.origin);
  high = held_key (page_after next walk.parent walk.after) node (origin_after next);
  root = false;
  leftmost = place.j == 0;
}

-- the checks of the place in hand, whose page was taken before or not
abbrev pub PlaceInHand : Index → Walk → Aim → Place → Next → Bool → Option Fault → Type 0
PlaceInHand index walk aim place next taken =
    PlaceAt index aim.segment aim.index_id taken place.cursor.number (spot_in_hand walk index.node aim place next)
    place.previous (next_in_hand walk index.node next)

-- the node pointer in hand was read
abbrev pub HoldsLow : Walk → Fields → Cursor → Type 0
HoldsLow walk node cursor = IsHeld walk.parent node cursor.origin walk.low

-- the node pointer behind the one in hand was read, if there is one
abbrev pub HoldsHigh : Walk → Fields → Next → Type 0
HoldsHigh walk node next = IfSome (origin_after next)
    (λ origin. IsHeld (page_after next walk.parent walk.after) node origin walk.high)

-- what stands beside the page in hand was read: the node pointer that leads to it, where there is one, and the next
-- one; a root has neither
pub record HoldsBeside (walk : Walk) (node : Fields) (root : Bool) (low : Option ℕ) (next : Next) : Type 0 where
  pub low_held : IfSome low (λ origin. IsHeld walk.parent node origin walk.low)
  pub high_held : HoldsHigh walk node next
  pub root_low : root ≡ true → low ≡ None
  pub root_high : root ≡ true → origin_after next ≡ None

-- where the page in hand stands: between the keys of the node pointers beside it
abbrev pub spot_beside : Walk → Fields → Stand → Option ℕ → Next → Spot
spot_beside walk node stand low next =
    spot_between stand (held_key walk.parent node low)
    (held_key (page_after next walk.parent walk.after) node (origin_after next))

-- one more number was marked
abbrev pub GrowsBy : List Bool → List Bool → ℕ → Type 0
GrowsBy old new n = (taken : ℕ → Bool) (list : List ℕ) → Marked taken old list → Marked taken new (list ++ n ∷ [])

-- how many records of a page have no delete mark, how many have one, and whether all are known to lie whole there
pub record IsTally (page : List ℕ) (fields : Fields) (tally : Tally) : Type 0 where
  pub live : tally.live ≡ count_by (λ origin. not (is_deleted page origin)) (records_of page)
  pub deleted : tally.deleted ≡ count_by (is_deleted page) (records_of page)
  pub whole : tally.whole ≡ true → All (LiesWhole page fields) (records_of page)

-- none of these records has the minimum mark
abbrev pub AreUnmarked : List ℕ → List ℕ → Type 0
AreUnmarked page records = All (λ origin. is_minimum page origin ≡ false) records

-- the values of a row lie whole on its leaf, in no more bytes than their types take
abbrev pub RowLiesWhole : Index → Row → Type 0
RowLiesWhole index row = LiesWhole (page_in index row.page) index.leaf row.origin

-- how many rows of these leaves have no delete mark, how many have one, and whether all are known to lie whole on
-- their leaves
pub record IsTallyOf (index : Index) (leaves : List ℕ) (tally : Tally) : Type 0 where
  pub live : tally.live ≡ count_by (is_live_row index) (rows_of index leaves)
  pub deleted : tally.deleted ≡ count_by (is_deleted_row index) (rows_of index leaves)
  pub whole : tally.whole ≡ true → All (RowLiesWhole index) (rows_of index leaves)

-- the numbers of the level below a depth
pub record IsAim (index : Index) (aim : Aim) : Type 0 where
  pub above : aim.depth < root_level index
  pub id : aim.index_id ≡ index_id index
  pub segment : aim.segment ≡ segment_at index aim.level

-- the level above is sound, and this is its leftmost page, and how many pages it has
pub record IsAtLevel (index : Index) (aim : Aim) (upper : Level) : Type 0 where
  pub facts : LevelFacts index index.node aim.depth
  pub is_aim : IsAim index aim
  pub leftmost : upper.first ≡ slice_index_or (pages_at index aim.depth) 0 0
  pub width : upper.pages ≡ length (pages_at index aim.depth)

-- the leftmost page of the level, how many pages it has, and their tally where they are leaves
pub record IsLevel (index : Index) (aim : Aim) (row : Level) : Type 0 where
  pub first : row.first ≡ slice_index_or (pages_at index (aim.depth + 1)) 0 0
  pub pages : row.pages ≡ length (pages_at index (aim.depth + 1))
  pub tallied : aim.level ≡ 0 → IsTallyOf index (pages_at index (aim.depth + 1)) row.tally

-- a place of the level below a depth: its pointer is in hand, in a level whose checks hold
pub record IsAtPlace (index : Index) (aim : Aim) (place : Place) (page : List ℕ) : Type 0 where
  pub facts : LevelFacts index index.node aim.depth
  pub is_aim : IsAim index aim
  pub stands : Stands index aim.depth place.cursor page place.j
  pub previous : place.previous ≡ before (children index (places index aim.depth)) place.j

-- the page of a place, and the checks there where it was taken before or not
abbrev pub page_at_place : Index → Aim → Place → ℕ
page_at_place index aim place = child_of index (row_at (places index aim.depth) place.j)

abbrev pub CheckAtPlace : Index → Aim → Place → Bool → Option Fault → Type 0
CheckAtPlace index aim place taken = PlaceWith index aim.level taken (places index aim.depth) place.j

-- what is known of the root
pub record IsTop (index : Index) (top : Top) : Type 0 where
  pub level : top.level ≡ root_level index
  pub id : top.index_id ≡ index_id index
  pub leaf : top.leaf ≡ leaf_segment index
  pub upper : top.upper ≡ top_segment index
  pub tallied : top.level ≡ 0 → IsTally (page_in index index.root) index.leaf top.tally

-- the numbers of a tree that was walked
pub record IsEndsOf (index : Index) (ends : TreeEnds) : Type 0 where
  pub id : ends.index_id ≡ index_id index
  pub level : ends.root_level ≡ root_level index
  pub first : ends.first_leaf ≡ slice_index_or (leaf_pages index) 0 0
  pub count : ends.leaves ≡ length (leaf_pages index)
  pub leaf : ends.leaf_segment ≡ leaf_segment index
  pub top : ends.top_segment ≡ top_segment index
  pub live : ends.live ≡ count_by (is_live_row index) (leaf_rows index)
  pub deleted : ends.deleted ≡ count_by (is_deleted_row index) (leaf_rows index)
  pub whole : lies_whole ends ≡ true → All (RowLiesWhole index) (leaf_rows index)
