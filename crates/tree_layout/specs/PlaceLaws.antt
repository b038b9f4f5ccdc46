-- The pages of a tree fill its places, and have different numbers where the pages of segments have.
use Rattle.std.specs.Prelude.{◌≡◌, ◌≢◌, ℕ, ◌+◌, ◌-◌, ◌*◌, ◌<◌, List, length, slice_index}
use Rattle.tree_layout.specs.Places.{pages_above, segment_for, place_for, top_size, leaf_size, EachPlace, IsTreePlace}
use Rattle.tree_layout.specs.Places.{HaveOneNumber, FitsSegments, StandWithin, AreDifferent, AreApart}

-- the pages of trees stand in the segments of their indexes, and have different numbers where the segments' pages have
pub record StandApart (page : ℕ → ℕ → ℕ) (size : ℕ → ℕ) (counts : List ℕ) (j : ℕ) : Type 0 where
  pub within : StandWithin counts size j
  pub different : AreDifferent page counts j
  pub apart : (others : List ℕ) (i : ℕ) → FitsSegments others size i → j ≢ i → AreApart page counts j others i

abbrev pub NumbersAreDifferent : Type 0
NumbersAreDifferent =
    (page : ℕ → ℕ → ℕ) (size : ℕ → ℕ) (counts : List ℕ) (j : ℕ) → HaveOneNumber page size
    → FitsSegments counts size j → StandApart page size counts j

-- the page of a tree at place i of segment s, by its level and its place there
pub record PageAt (counts : List ℕ) (j s i : ℕ) : Type 0 where
  pub l : ℕ
  pub k : ℕ
  pub inside : l < length counts
  pub within : k < slice_index counts l
  pub segment : segment_for counts j l ≡ s
  pub place : place_for counts l k ≡ i

-- each page of a tree has a place, each place has a page, the root is the first page of its segment, and the pages
-- above a page and before it are fewer than all
pub record FillPlaces (counts : List ℕ) (j : ℕ) : Type 0 where
  pub placed : EachPlace counts (λ l k. IsTreePlace counts j (segment_for counts j l) (place_for counts l k))
  pub filled : (s i : ℕ) → IsTreePlace counts j s i → PageAt counts j s i
  pub root_segment : segment_for counts j (length counts - 1) ≡ 2 * j
  pub root_place : place_for counts (length counts - 1) 0 ≡ 0
  pub fewer : EachPlace counts (λ l k. pages_above counts l + k < top_size counts + leaf_size counts)

abbrev pub PagesFillPlaces : Type 0
PagesFillPlaces =
    (counts : List ℕ) (size : ℕ → ℕ) (j : ℕ) → FitsSegments counts size j → FillPlaces counts j
