-- Which number each page gets, by how many pages each segment has. Segment 2j has the upper levels of index j, the
-- root first; segment 2j+1 has its leaves.
use Rattle.std.specs.Prelude.{◌≡◌, ℕ, ◌+◌, ◌-◌, ◌*◌, ◌/◌, ◌%◌, ◌<◌, ◌≤◌, min, ◌==◌, nat_lt, if◌then◌else◌, List, length}
use Rattle.std.specs.Prelude.{[], ◌∷◌, take, sum_by, flat_map, slice_index, slice_get, All, Some}

-- the first 32 pages of a segment are fragment pages; the others are in extents of its own
abbrev pub fragments_of : ℕ → ℕ
fragments_of size = min size 32

abbrev pub own_of : ℕ → ℕ
own_of size = size - 32

abbrev pub extents_of : ℕ → ℕ
extents_of size = (own_of size + 63) / 64

-- how many fragment pages, and how many extents, the segments before segment s have
unfoldable pub fragments_before : List ℕ → ℕ → ℕ
fragments_before sizes s = sum_by fragments_of (take s sizes)

unfoldable pub extents_before : List ℕ → ℕ → ℕ
extents_before sizes s = sum_by extents_of (take s sizes)

-- the used pages of fragment extents: three, and those of the segments
abbrev pub used_fragments : List ℕ → ℕ
used_fragments sizes = 3 + fragments_before sizes (length sizes)

abbrev pub fragment_extents : List ℕ → ℕ
fragment_extents sizes = (used_fragments sizes + 63) / 64

-- the extents of segment s begin here
abbrev pub extent_start : List ℕ → ℕ → ℕ
extent_start sizes s = fragment_extents sizes + extents_before sizes s

-- how many extents there are, and how many pages
abbrev pub extents_needed : List ℕ → ℕ
extents_needed sizes = extent_start sizes (length sizes)

abbrev pub space_pages : List ℕ → ℕ
space_pages sizes = 64 * extents_needed sizes

-- behind the roots the fragment pages of the segments follow, in the order of the segments
abbrev pub roots : ℕ → ℕ
roots s = (s + 1) / 2

abbrev pub fragment_start : List ℕ → ℕ → ℕ
fragment_start sizes s = 3 + roots (length sizes) + (fragments_before sizes s - roots s)

-- fragment page i of segment s
unfoldable pub fragment_page : List ℕ → ℕ → ℕ → ℕ
fragment_page sizes s i =
    if s % 2 == 0 then (if i == 0 then 3 + s / 2 else fragment_start sizes s + (i - 1)) else fragment_start sizes s + i

-- page i of segment s
unfoldable pub segment_page : List ℕ → ℕ → ℕ → ℕ
segment_page sizes s i =
    if nat_lt i 32 then fragment_page sizes s i else 64 * extent_start sizes s + (i - 32)

-- how many pages segment s has
abbrev pub size_at : List ℕ → ℕ → ℕ
size_at sizes s = slice_index sizes s

-- each segment of upper levels has a root
abbrev pub HaveRoots : List ℕ → Type 0
HaveRoots sizes = (s : ℕ) → s < length sizes → s % 2 ≡ 0 → 1 ≤ size_at sizes s

-- the sizes are those of the segments of at most 16 indexes, which fit the greatest tablespace that is built
pub record IsShape (sizes : List ℕ) : Type 0 where
  pub few : length sizes ≤ 32
  pub pairs : length sizes % 2 ≡ 0
  pub roots : HaveRoots sizes
  pub fits : extents_needed sizes ≤ 256

-- page i of segment s has the number n
pub record IsPlace (sizes : List ℕ) (s i n : ℕ) : Type 0 where
  pub below : s < length sizes
  pub inside : i < size_at sizes s
  pub there : segment_page sizes s i ≡ n

-- the numbers of the pages of segments differ, and lie behind the first three and below the number of pages
pub record AreNumbers (sizes : List ℕ) : Type 0 where
  pub low : (s i n : ℕ) → IsPlace sizes s i n → 3 ≤ n
  pub high : (s i n : ℕ) → IsPlace sizes s i n → n < space_pages sizes
  pub one : (s t i j : ℕ) → i < size_at sizes s → j < size_at sizes t → segment_page sizes s i ≡ segment_page sizes t j
      → (s ≡ t) × (i ≡ j)
  pub roots : (j : ℕ) → segment_page sizes (2 * j) 0 ≡ 3 + j

-- the segments of some indexes, which have so many pages each: that of the upper levels and that of the leaves
unfoldable pub sizes_of : List (ℕ × ℕ) → List ℕ
sizes_of pairs = flat_map (λ (pair : ℕ × ℕ). pair.0 ∷ pair.1 ∷ []) pairs

-- indexes whose segments have a shape
pub record AreIndexes (pairs : List (ℕ × ℕ)) : Type 0 where
  pub few : length pairs ≤ 16
  pub roots : All (λ (pair : ℕ × ℕ). 1 ≤ pair.0) pairs
  pub fits : extents_needed (sizes_of pairs) ≤ 256

-- the sizes are those of their segments, two for each
pub record AreSizesOf (pairs : List (ℕ × ℕ)) : Type 0 where
  pub count : length (sizes_of pairs) ≡ 2 * length pairs
  pub top : (j : ℕ) (pair : ℕ × ℕ) → slice_get pairs j ≡ Some pair → size_at (sizes_of pairs) (2 * j) ≡ pair.0
  pub leaf : (j : ℕ) (pair : ℕ × ℕ) → slice_get pairs j ≡ Some pair → size_at (sizes_of pairs) (2 * j + 1) ≡ pair.1
