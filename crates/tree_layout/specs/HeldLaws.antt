-- A file that holds the divided trees of some entries has these trees, with the entries as their rows.
use Rattle.std.specs.Prelude.{◌≡◌, ℕ, ◌<◌, ◌≤◌, List, map, filter}
use Rattle.std.specs.List.{AllZip}
use Rattle.page_source.specs.Lists.{times_in}
use Rattle.tree_walk.specs.Index.{Index, leaf_rows, is_live_row}
use Rattle.tree_walk.specs.Descent.{pages_by_descent, tree_rows}
use Rattle.tree_walk.specs.Laws.{row_key}
use Rattle.tree_layout.specs.Entries.{Entry, key_of_entry, IsRowOf}
use Rattle.tree_layout.specs.Levels.{entries_at}
use Rattle.tree_layout.specs.Places.{HaveOneNumber, IsTreePlace}
use Rattle.tree_layout.specs.Built.{HoldsTrees}
use Rattle.tree_layout.specs.TreeLaws.{HasBuiltTrees}
use Rattle.tree_layout.specs.Divided.{HoldsDivided, counts_for, numbers_for, levels_for, NamesPlaces}
use Rattle.tree_layout.specs.Divided.{NamesTwoSegments}
use Rattle.space_header.specs.declared.address.Address.{Address}

-- a file that holds the divided trees of some entries holds their trees, whose leaf entries these are
pub record HoldsTheTrees (index : ℕ → Index) (count : ℕ) (page : ℕ → ℕ → ℕ) (entries : ℕ → List Entry) : Type 0 where
  pub trees : HoldsTrees index count (λ j. numbers_for (index j) page j (entries j))
      (λ j. levels_for (index j) page j (entries j))
  pub leaves : (j : ℕ) → j < count → entries_at (levels_for (index j) page j (entries j)) 0 ≡ entries j

abbrev pub DividedTreesAreHeld : Type 0
DividedTreesAreHeld =
    (index : ℕ → Index) (count : ℕ) (page : ℕ → ℕ → ℕ) (size : ℕ → ℕ) (entries : ℕ → List Entry)
    → HaveOneNumber page size → ((j : ℕ) → j < count → HoldsDivided (index j) page size j (entries j))
    → HoldsTheTrees index count page entries

-- the headers of a root tell its segments
abbrev pub HeadersNameSegments : Type 0
HeadersNameSegments =
    (index : Index) (count : ℕ) (place : ℕ → Address) (j : ℕ) → NamesPlaces index count place j
    → NamesTwoSegments index j

-- the pages of a tree by descent are those of its places in the segments, each once
pub record TakesItsPlaces (index : Index) (page : ℕ → ℕ → ℕ) (counts : List ℕ) (j : ℕ) : Type 0 where
  pub taken : (s i : ℕ) → IsTreePlace counts j s i → times_in (pages_by_descent index) (page s i) ≡ 1
  pub only : (n : ℕ) → 1 ≤ times_in (pages_by_descent index) n
      → (s : ℕ) × (i : ℕ) × IsTreePlace counts j s i × (n ≡ page s i)

-- the pages of a divided tree that a file holds are those of its places in the segments, each once
abbrev pub TreesTakePlaces : Type 0
TreesTakePlaces =
    (index : Index) (page : ℕ → ℕ → ℕ) (size : ℕ → ℕ) (j : ℕ) (entries : List Entry) → HaveOneNumber page size
    → HoldsDivided index page size j entries → TakesItsPlaces index page (counts_for index entries) j

-- the tree of index j has these leaf entries as its rows, all live, and takes its places in its segments
pub record HasItsRows (index : Index) (page : ℕ → ℕ → ℕ) (j : ℕ) (entries : List Entry) : Type 0 where
  pub rows : AllZip (IsRowOf index index.leaf) (tree_rows index) entries
  pub keys : map (row_key index) (tree_rows index) ≡ map (key_of_entry index.leaf.keys) entries
  pub leaves : leaf_rows index ≡ tree_rows index
  pub live : filter (is_live_row index) (tree_rows index) ≡ tree_rows index
  pub places : TakesItsPlaces index page (counts_for index entries) j

-- the trees of some indexes are whole and apart, with these entries as their rows
pub record HaveTheirRows (index : ℕ → Index) (count : ℕ) (page : ℕ → ℕ → ℕ) (entries : ℕ → List Entry) : Type 0 where
  pub trees : HasBuiltTrees index count (λ j. numbers_for (index j) page j (entries j))
      (λ j. levels_for (index j) page j (entries j))
  pub rows : (j : ℕ) → j < count → HasItsRows (index j) page j (entries j)

-- the divided trees of some entries, if a file holds them, are whole and apart, with these entries as their rows
abbrev pub DividedTreesHaveRows : Type 0
DividedTreesHaveRows =
    (index : ℕ → Index) (count : ℕ) (page : ℕ → ℕ → ℕ) (size : ℕ → ℕ) (entries : ℕ → List Entry)
    → HaveOneNumber page size → ((j : ℕ) → j < count → HoldsDivided (index j) page size j (entries j))
    → HaveTheirRows index count page entries
