-- What is known between the steps of a walk: before a place of a level, and before a level of the tree.
use Rattle.std.specs.Prelude.{◌≡◌, ℕ, ◌<◌, Bool, List, [], length, slice_index_or, take, None}
use Rattle.space_audit.specs.Marks.{is_set, Marked}
use Rattle.tree_walk.specs.declared.level.Aim.{Aim}
use Rattle.tree_walk.specs.declared.level.Place.{Place}
use Rattle.tree_walk.specs.declared.level.Level.{Level}
use Rattle.tree_walk.specs.declared.place.tally.Tally.{Tally}
use Rattle.tree_walk.specs.declared.tree.root.Top.{Top}
use Rattle.tree_walk.specs.Index.{Index, pages_at, places, children, root_level, reached}
use Rattle.tree_walk.specs.TreeChecks.{PlaceCheck, RootCheck, DepthCheck}
use Rattle.tree_walk.specs.Walk.{IsAtPlace, IsTallyOf, IsTop}

-- what is known before place j of a level, over a told content
pub record LevelState (index : Index) (aim : Aim) (start marks : List Bool) (place : Place) (page : List ℕ)
    (tally : Tally) : Type 0 where
  pub at : IsAtPlace index aim place page
  pub marked : Marked (is_set start) marks (take place.j (children index (places index aim.depth)))
  pub held : (k : ℕ) → k < place.j → PlaceCheck index aim.level (is_set start) [] (places index aim.depth) k None
  pub tallied : aim.level ≡ 0 → IsTallyOf index (take place.j (children index (places index aim.depth))) tally

-- what is known before the level below a depth is walked, over a told content
pub record TreeState (index : Index) (top : Top) (depth : ℕ) (start names marks : List Bool) (row : Level)
    : Type 0 where
  pub is_top : IsTop index top
  pub checked : RootCheck index (is_set start) (is_set names) None
  pub first : row.first ≡ slice_index_or (pages_at index depth) 0 0
  pub pages : row.pages ≡ length (pages_at index depth)
  pub tallied : depth ≡ root_level index → IsTallyOf index (pages_at index depth) row.tally
  pub marked : Marked (is_set start) marks (reached index depth)
  pub held : (d : ℕ) → d < depth → DepthCheck index (is_set start) d None
