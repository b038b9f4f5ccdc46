-- The pages of a tree as the format says them: each page is as full as it can be, and each level stands on the one
-- below it.
use Rattle.std.specs.Prelude.{◌≡◌, ℕ, ◌+◌, ◌<◌, List, [], ◌∷◌, ◌++◌, length, All, slice_index_or}
use Rattle.column_values.specs.Types.{Fields}
use Rattle.tree_layout.specs.Entries.{Entry}
use Rattle.tree_layout.specs.Division.{Level, FitsPage, FitsAlone, divided, pointers_to, tree_levels, CanDivide}
use Rattle.tree_layout.specs.Levels.{entries_of, level_at, width_at, top_of}

-- page k of a level, and its first entry
abbrev pub page_at : Level → ℕ → List Entry
page_at pages k = slice_index_or pages k []

abbrev pub first_of : Level → ℕ → Entry
first_of pages k = slice_index_or (page_at pages k) 0 []

-- a page is closed only if the next entry doesn't fit: with the first entry of the next page, page k would be too full
abbrev pub AreClosed : Fields → Level → Type 0
AreClosed fields pages =
    (k : ℕ) → k + 1 < length pages → ¬ (FitsPage fields (page_at pages k ++ first_of pages (k + 1) ∷ []))

-- these entries are divided into these pages: the pages have them from left to right, no page is empty but one that is
-- alone, the entries of each page fit it, and a page is closed only if the next entry doesn't fit
pub record IsDivision (fields : Fields) (entries : List Entry) (pages : Level) : Type 0 where
  pub all : entries_of pages ≡ entries
  pub some : 0 < length pages
  pub filled : 1 < length pages → All (λ page. 0 < length page) pages
  pub fit : All (FitsPage fields) pages
  pub closed : AreClosed fields pages

-- `divided` divides so, if each entry fits a page alone
abbrev pub DividedIsDivision : Type 0
DividedIsDivision =
    (fields : Fields) (entries : List Entry) → All (FitsAlone fields) entries
    → IsDivision fields entries (divided fields entries)

-- entries are divided in one way
abbrev pub HaveOneDivision : Type 0
HaveOneDivision =
    (fields : Fields) (entries : List Entry) (pages others : Level)
    → IsDivision fields entries pages → IsDivision fields entries others → pages ≡ others

-- levels of a tree of these leaf entries: the leaves divide the entries, each level above divides the pointers to the
-- pages below, and a level of one page is the root, above which there is none
pub record IsDividedTree (leaf node : Fields) (numbers : ℕ → ℕ → ℕ) (entries : List Entry) (levels : List Level)
    : Type 0 where
  pub some : 0 < length levels
  pub leaves : IsDivision leaf entries (level_at levels 0)
  pub above : (l : ℕ) → l + 1 < length levels
      → IsDivision node (pointers_to node.keys (level_at levels l) (numbers l)) (level_at levels (l + 1))
  pub several : (l : ℕ) → l + 1 < length levels → 1 < width_at levels l
  pub root : width_at levels (top_of levels) ≡ 1

-- `tree_levels` are such levels of entries that can be divided, and there are no others
pub record HasOneDividedTree (leaf node : Fields) (numbers : ℕ → ℕ → ℕ) (entries : List Entry) : Type 0 where
  pub is : IsDividedTree leaf node numbers entries (tree_levels leaf node numbers entries)
  pub only : (levels : List Level) → IsDividedTree leaf node numbers entries levels
      → levels ≡ tree_levels leaf node numbers entries

abbrev pub TreesAreDivided : Type 0
TreesAreDivided =
    (leaf node : Fields) (numbers : ℕ → ℕ → ℕ) (entries : List Entry) → CanDivide leaf node entries
    → HasOneDividedTree leaf node numbers entries
