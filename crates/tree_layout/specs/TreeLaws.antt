-- A file that holds a tree has a whole tree by descent, and a file that holds the trees of some indexes has them all.
use Rattle.std.specs.Prelude.{◌≡◌, ℕ, ◌-◌, ◌*◌, ◌<◌, ◌≤◌, false, List, map, filter, flat_map}
use Rattle.std.specs.List.{AllZip, range_with_len}
use Rattle.page_source.specs.Lists.{times_in}
use Rattle.tree_walk.specs.Index.{Index, root_level, pages_at, leaf_rows, is_live_row}
use Rattle.tree_walk.specs.Descent.{pages_by_descent, tree_rows}
use Rattle.tree_walk.specs.Segments.{named_segments}
use Rattle.tree_walk.specs.Laws.{ComeOnce, IsWhole, row_key}
use Rattle.tree_layout.specs.Entries.{key_of_entry}
use Rattle.tree_layout.specs.Division.{Level}
use Rattle.tree_layout.specs.Levels.{entries_at, top_of, numbers_at}
use Rattle.tree_layout.specs.Built.{HoldsTree, HoldsTrees}
use Rattle.tree_layout.specs.Entries.{IsRowOf}

-- a whole tree by descent: its levels have these pages, and its rows are the leaf entries, in order and all live
pub record HasBuiltTree (index : Index) (numbers : ℕ → ℕ → ℕ) (levels : List Level) : Type 0 where
  pub whole : IsWhole index (λ page. false) (λ segment. false)
  pub level : root_level index ≡ top_of levels
  pub pages : (d : ℕ) → d ≤ top_of levels → pages_at index d ≡ numbers_at levels numbers (top_of levels - d)
  pub rows : AllZip (IsRowOf index index.leaf) (tree_rows index) (entries_at levels 0)
  pub keys : map (row_key index) (tree_rows index) ≡ map (key_of_entry index.leaf.keys) (entries_at levels 0)
  pub leaves : leaf_rows index ≡ tree_rows index
  pub live : filter (is_live_row index) (tree_rows index) ≡ tree_rows index

-- a file that holds a tree has it
abbrev pub BuiltTreesAreWhole : Type 0
BuiltTreesAreWhole =
    (index : Index) (numbers : ℕ → ℕ → ℕ) (levels : List Level) → HoldsTree index numbers levels
    → HasBuiltTree index numbers levels

-- whole trees, no page of which comes twice over all of them; each of their segments is named once
pub record HasBuiltTrees (index : ℕ → Index) (count : ℕ) (numbers : ℕ → ℕ → ℕ → ℕ) (levels : ℕ → List Level)
    : Type 0 where
  pub trees : (j : ℕ) → j < count → HasBuiltTree (index j) (numbers j) (levels j)
  pub once : ComeOnce (flat_map (λ j. pages_by_descent (index j)) (range_with_len 0 count))
  pub named : (segment : ℕ) → segment < 2 * count
      → times_in (flat_map (λ j. named_segments (index j)) (range_with_len 0 count)) segment ≡ 1

-- a file that holds the trees of some indexes has them
abbrev pub BuiltTreesAreApart : Type 0
BuiltTreesAreApart =
    (index : ℕ → Index) (count : ℕ) (numbers : ℕ → ℕ → ℕ → ℕ) (levels : ℕ → List Level)
    → HoldsTrees index count numbers levels → HasBuiltTrees index count numbers levels
