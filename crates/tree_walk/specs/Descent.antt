-- A tree by descent: its pages and rows, in the order of the descent (btr0btr).
use Rattle.std.specs.Prelude.{ℕ, zero, suc, List, [], ◌∷◌, flat_map, Bool, true, false, cond, All, Option, Some, None}
use Rattle.column_values.specs.Order.{Key}
use Rattle.index_page.specs.Header.{records_of}
use Rattle.index_page.specs.Page.{IsIndexPage, HasMinimumMark}
use Rattle.tree_walk.specs.Index.{Index, Row, page_in, fields_on, key_in, root_level, rows_on, child_of, children}
use Rattle.tree_walk.specs.Place.{Spot, is_leaf_level, HasSpotLevel, HasSeparators}

-- the children of a page
abbrev pub children_at : Index → ℕ → List ℕ
children_at index n = children index (rows_on index n)

-- the pages of the tree of this level under page n
unfoldable pub pages_under : Index → ℕ → ℕ → List ℕ
pages_under index zero n = n ∷ []
pages_under index (suc level) n = n ∷ flat_map (pages_under index level) (children_at index n)

-- the pages of a whole tree
abbrev pub pages_by_descent : Index → List ℕ
pages_by_descent index = pages_under index (root_level index) index.root

-- the pages so many levels below n
unfoldable pub below : Index → ℕ → ℕ → List ℕ
below index zero n = n ∷ []
below index (suc depth) n = flat_map (below index depth) (children_at index n)

-- the rows of the tree of this level under page n
unfoldable pub rows_below : Index → ℕ → ℕ → List Row
rows_below index zero n = rows_on index n
rows_below index (suc level) n = flat_map (rows_below index level) (children_at index n)

-- the rows of a whole tree
abbrev pub tree_rows : Index → List Row
tree_rows index = rows_below index (root_level index) index.root

-- a page between two separators
pub record Bounded : Type 0 where
  pub page : ℕ
  pub low : Option Key
  pub high : Option Key
  pub leftmost : Bool

-- the key of the first of these node pointers, or the high separator of all
abbrev pub key_after : Index → List Row → Option Key → Option Key
key_after index [] high = high
key_after index (p ∷ ps) high = Some (key_in index p)

-- the children of these node pointers, each between its pointer's key and the next one; the first may be leftmost
abbrev pub bounds : Index → Bool → List Row → Option Key → List Bounded
bounds index leftmost [] high = []
bounds index leftmost (p ∷ ps) high =
    record {
      page = child_of index p;
      low = cond leftmost None (Some (key_in index p));
      high = key_after index ps high;
      leftmost = leftmost;
    } ∷ bounds index false ps high

-- the children of a page
abbrev pub kids : Index → Bounded → List Bounded
kids index b = bounds index b.leftmost (rows_on index b.page) b.high

-- where a page between two separators stands as a page of this level
abbrev pub spot_on : ℕ → Bool → Bounded → Spot
spot_on level root b = record {
  page = b.page;
  level = level;
  low = b.low;
  high = b.high;
  root = root;
  leftmost = b.leftmost;
}

-- an index page of this level, whose keys lie between its separators
pub record IsNode (index : Index) (level : ℕ) (root : Bool) (b : Bounded) : Type 0 where
  pub at_level : HasSpotLevel (page_in index b.page) level
  pub page : IsIndexPage (page_in index b.page) (fields_on index level) (is_leaf_level level) root b.leftmost
      (records_of (page_in index b.page))
  pub keys : HasSeparators (page_in index b.page) (fields_on index level) (spot_on level root b)
  pub marks : HasMinimumMark (page_in index b.page) (is_leaf_level level) b.leftmost (records_of (page_in index b.page))

-- the tree of this level under a page
abbrev pub IsTree : Index → ℕ → Bool → Bounded → Type 0
IsTree index zero root b = IsNode index zero root b
IsTree index (suc level) root b = IsNode index (suc level) root b × All (IsTree index level false) (kids index b)

-- the root, between no separators
abbrev pub bounded_root : Index → Bounded
bounded_root index = record { page = index.root; low = None; high = None; leftmost = true }

-- the whole tree
abbrev pub IsTreeByDescent : Index → Type 0
IsTreeByDescent index = IsTree index (root_level index) true (bounded_root index)
