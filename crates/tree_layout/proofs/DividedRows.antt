-- Trees into which entries are divided have these entries as their rows.
use Rattle.std.proofs.Common.{◌≡◌, ℕ, List, map, ◌∙◌, ap, subst}
use Rattle.std.specs.List.{AllZip}
use Rattle.tree_walk.specs.Index.{Index}
use Rattle.tree_walk.specs.Descent.{tree_rows}
use Rattle.tree_layout.specs.Entries.{Entry, key_of_entry}
use Rattle.tree_layout.specs.Levels.{entries_at}
use Rattle.tree_layout.specs.Built.{HoldsTree}
use Rattle.tree_layout.specs.Entries.{IsRowOf}
use Rattle.tree_layout.specs.Divided.{numbers_for, levels_for, counts_for}
use Rattle.tree_layout.specs.TreeLaws.{BuiltTreesAreWhole, BuiltTreesAreApart}
use Rattle.tree_layout.specs.HeldLaws.{DividedTreesAreHeld, TreesTakePlaces}
use Rattle.tree_layout.specs.HeldLaws.{TakesItsPlaces, HasItsRows, DividedTreesHaveRows}

has_rows : BuiltTreesAreWhole → (index : Index) (page : ℕ → ℕ → ℕ) (j : ℕ) (entries : List Entry)
    → HoldsTree index (numbers_for index page j entries) (levels_for index page j entries)
    → entries_at (levels_for index page j entries) 0 ≡ entries
    → TakesItsPlaces index page (counts_for index entries) j → HasItsRows index page j entries
has_rows whole index page j entries tree leaves places =
    let has = whole index (numbers_for index page j entries) (levels_for index page j entries) tree in record {
      rows = subst (AllZip (IsRowOf index index.leaf) (tree_rows index)) leaves has.rows;
      keys = has.keys ∙ ap (map (key_of_entry index.leaf.keys)) leaves;
      leaves = has.leaves;
      live = has.live;
      places = places;
    }

pub divided_rows : BuiltTreesAreWhole → BuiltTreesAreApart → DividedTreesAreHeld → TreesTakePlaces
    → DividedTreesHaveRows
divided_rows whole apart trees places index count page size entries one held =
    let all = trees index count page size entries one held in record {
      trees = apart index count (λ j. numbers_for (index j) page j (entries j))
          (λ j. levels_for (index j) page j (entries j)) all.trees;
      rows = λ j inside. has_rows whole (index j) page j (entries j) (all.trees.trees j inside) (all.leaves j inside)
          (places (index j) page size j (entries j) one (held j inside));
    }
