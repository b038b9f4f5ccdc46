-- Where the pages of a tree stand in the two segments of its index: the upper one has the root first and then the
-- levels above the leaves, from the upper one down; the leaves have a segment of their own, but for a root.
use Rattle.std.specs.Prelude.{◌≡◌, ℕ, ◌+◌, ◌-◌, ◌*◌, ◌<◌, ◌≤◌, ◌==◌, ◌&&◌, ◌⊎◌, Bool, not, if◌then◌else◌, List}
use Rattle.std.specs.Prelude.{length, drop, sum}
use Rattle.std.specs.Prelude.{slice_index}

-- how many pages the levels above one have, by how many each has, from the leaves up
unfoldable pub pages_above : List ℕ → ℕ → ℕ
pages_above counts l = sum (drop (l + 1) counts)

-- a level of leaves below a root
abbrev pub is_leaf_row : List ℕ → ℕ → Bool
is_leaf_row counts l = (l == 0) && not (length counts == 1)

-- the segment of the pages of a level of index j, and where page k of the level stands there
abbrev pub segment_for : List ℕ → ℕ → ℕ → ℕ
segment_for counts j l = if is_leaf_row counts l then 2 * j + 1 else 2 * j

abbrev pub place_for : List ℕ → ℕ → ℕ → ℕ
place_for counts l k = if is_leaf_row counts l then k else pages_above counts l + k

-- how many pages of the tree the two segments have
abbrev pub top_size : List ℕ → ℕ
top_size counts = if length counts == 1 then 1 else pages_above counts 0

abbrev pub leaf_size : List ℕ → ℕ
leaf_size counts = if length counts == 1 then 0 else slice_index counts 0

-- each page of a tree, by level and place
abbrev pub EachPlace : List ℕ → (ℕ → ℕ → Type 0) → Type 0
EachPlace counts P = (l k : ℕ) → l < length counts → k < slice_index counts l → P l k

-- the number of page k of a level of index j, where `page s i` is that of page i of segment s
abbrev pub tree_number : (ℕ → ℕ → ℕ) → List ℕ → ℕ → ℕ → ℕ → ℕ
tree_number page counts j l k = page (segment_for counts j l) (place_for counts l k)

-- segments of so many pages, each with a number of its own
abbrev pub HaveOneNumber : (ℕ → ℕ → ℕ) → (ℕ → ℕ) → Type 0
HaveOneNumber page size =
    (s t i k : ℕ) → i < size s → k < size t → page s i ≡ page t k → (s ≡ t) × (i ≡ k)

-- a place of a page of the tree of index j
abbrev pub IsTreePlace : List ℕ → ℕ → ℕ → ℕ → Type 0
IsTreePlace counts j s i = ((s ≡ 2 * j) × (i < top_size counts)) ⊎ ((s ≡ 2 * j + 1) × (i < leaf_size counts))

-- a tree with a single page at its top, and room for its pages in the segments of index j
pub record FitsSegments (counts : List ℕ) (size : ℕ → ℕ) (j : ℕ) : Type 0 where
  pub some : 0 < length counts
  pub single : slice_index counts (length counts - 1) ≡ 1
  pub top : top_size counts ≤ size (2 * j)
  pub leaf : leaf_size counts ≤ size (2 * j + 1)

-- the pages of a tree stand in the segments
abbrev pub StandWithin : List ℕ → (ℕ → ℕ) → ℕ → Type 0
StandWithin counts size j = EachPlace counts (λ l k. place_for counts l k < size (segment_for counts j l))

-- the numbers of the pages of a tree are all different
abbrev pub AreDifferent : (ℕ → ℕ → ℕ) → List ℕ → ℕ → Type 0
AreDifferent page counts j =
    EachPlace counts (λ l k. EachPlace counts (λ m i.
    tree_number page counts j l k ≡ tree_number page counts j m i → (l ≡ m) × (k ≡ i)))

-- no page of one of two trees has the number of a page of the other
abbrev pub AreApart : (ℕ → ℕ → ℕ) → List ℕ → ℕ → List ℕ → ℕ → Type 0
AreApart page counts j others i =
    EachPlace counts (λ l k. EachPlace others (λ m h.
    ¬ (tree_number page counts j l k ≡ tree_number page others i m h)))
