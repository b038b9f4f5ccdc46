-- Where the pages of long values stand behind the leaves of the first index: row by row, field by field, part by part.
use Rattle.std.specs.Prelude.{◌≡◌, ℕ, ◌+◌, ◌<◌, List, [], length, take, sum, sum_by, slice_index, slice_index_or}
use Rattle.space_layout.specs.Numbers.{segment_page}

-- the numbers of pages of the fields of row r
abbrev pub row_at : List (List ℕ) → ℕ → List ℕ
row_at counts r = slice_index_or counts r []

-- how many pages come before row r, and in a row before field i
unfoldable pub pages_before_row : List (List ℕ) → ℕ → ℕ
pages_before_row counts r = sum_by sum (take r counts)

unfoldable pub pages_before_field : List ℕ → ℕ → ℕ
pages_before_field row i = sum (take i row)

-- how many pages of long values there are
abbrev pub value_page_count : List (List ℕ) → ℕ
value_page_count counts = pages_before_row counts (length counts)

-- the place of part k of field i of row r
abbrev pub value_place : List (List ℕ) → ℕ → ℕ → ℕ → ℕ
value_place counts r i k = pages_before_row counts r + (pages_before_field (row_at counts r) i + k)

-- the page of part k of field i of row r, if the first index has so many leaves in their segment
abbrev pub value_page_number : List ℕ → ℕ → List (List ℕ) → ℕ → ℕ → ℕ → ℕ
value_page_number sizes leaves counts r i k = segment_page sizes 1 (leaves + value_place counts r i k)

-- there is a part k of field i of row r
pub record IsPart (counts : List (List ℕ)) (r i k : ℕ) : Type 0 where
  pub row : r < length counts
  pub field : i < length (row_at counts r)
  pub part : k < slice_index (row_at counts r) i

-- a place is that of a part
pub record IsPartAt (counts : List (List ℕ)) (n : ℕ) : Type 0 where
  pub r : ℕ
  pub i : ℕ
  pub k : ℕ
  pub is : IsPart counts r i k
  pub there : value_place counts r i k ≡ n

-- each part has a place of its own, and each place is that of a part
pub record HavePlaces (counts : List (List ℕ)) : Type 0 where
  pub below : (r i k : ℕ) → IsPart counts r i k → value_place counts r i k < value_page_count counts
  pub one : (r i k s j m : ℕ) → IsPart counts r i k → IsPart counts s j m
      → value_place counts r i k ≡ value_place counts s j m → (r ≡ s) × (i ≡ j) × (k ≡ m)
  pub every : (n : ℕ) → n < value_page_count counts → IsPartAt counts n
