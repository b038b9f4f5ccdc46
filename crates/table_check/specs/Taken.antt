-- What is known of a table's trees while they are walked one after another, and once all were.
use Rattle.std.specs.Prelude.{◌≡◌, ℕ, ◌+◌, ◌*◌, ◌<◌, ◌≤◌, Bool, List, length, sum_by, slice_index_or, None}
use Rattle.page_source.specs.declared.objects.PageSource.{Ghosts as FileOf}
use Rattle.page_source.specs.Lists.{unmarked}
use Rattle.space_audit.specs.Marks.{is_in, is_set}
use Rattle.space_audit.specs.Space.{SpaceView}
use Rattle.schema_text.specs.TableDef.{TableDef}
use Rattle.tree_walk.specs.declared.ends.TreeEnds.{TreeEnds}
use Rattle.tree_walk.specs.Leaf.{IsWalked}
use Rattle.tree_walk.specs.Walk.{IsEndsOf}
use Rattle.table_check.specs.declared.trees.Taken.{Taken}
use Rattle.table_check.specs.declared.trees.Trees.{Trees}
use Rattle.table_check.specs.Marking.{CanMark}
use Rattle.table_check.specs.First.{is_reached}
use Rattle.table_check.specs.Trees.{index_in, index_count, clustered_tree, pages_of_trees, segments_of_trees}
use Rattle.table_check.specs.Trees.{all_tree_pages}
use Rattle.table_check.specs.Trees.{leaf_segments, leaf_segments_of, AllTreeChecks, NamedChecks, IndexCheck}
use Rattle.page_source.specs.Verdict.{AllBelow}

-- exactly these numbers are marked
abbrev pub AreExactly : List Bool → List ℕ → Type 0
AreExactly marks list = (n : ℕ) → is_set marks n ≡ is_in list n

-- the space is the audit of the file, and there is a mark for each of its pages and of its segments
pub record CanTake {S : Type 0} (g : FileOf S) (source : S) (space : SpaceView) (taken : Taken) : Type 0 where
  pub pages : CanMark g source space taken.pages
  pub segments : length taken.segments ≡ length space.segments

-- the pages of the first j trees are marked, and the segments that they name
pub record AreTaken (file : List ℕ) (table : TableDef) (j : ℕ) (taken : Taken) : Type 0 where
  pub pages : AreExactly taken.pages (pages_of_trees file table j)
  pub segments : AreExactly taken.segments (segments_of_trees file table j)

-- the tree of the clustered index was walked, and these are its ends
pub record IsClustered (file : List ℕ) (table : TableDef) (ends : TreeEnds) : Type 0 where
  pub walked : IsWalked (clustered_tree file table)
  pub has_ends : IsEndsOf (clustered_tree file table) ends

-- the first j trees hold
pub record AreWalked (file : List ℕ) (table : TableDef) (j : ℕ) (taken : Taken) (clustered : TreeEnds)
    (leaves : List ℕ) : Type 0 where
  pub are_taken : AreTaken file table j taken
  pub held : AllBelow (IndexCheck file table) j
  pub has_clustered : IsClustered file table clustered
  pub has_leaves : leaves ≡ leaf_segments_of file table j

-- the first j trees were walked, and these are their ends
pub record AreEnds (file : List ℕ) (table : TableDef) (j : ℕ) (ends : List TreeEnds) : Type 0 where
  pub count : length ends ≡ j
  pub walked : (i : ℕ) → i < j → IsWalked (index_in file table i)
  pub each : (i : ℕ) (d : TreeEnds) → i < j → IsEndsOf (index_in file table i) (slice_index_or ends i d)

-- all trees hold, and each segment is named
pub record AreTrees (file : List ℕ) (table : TableDef) (trees : Trees) : Type 0 where
  pub sound : AllTreeChecks file table None
  pub named : NamedChecks file table None
  pub pages : AreExactly trees.marks (all_tree_pages file table)
  pub has_clustered : IsClustered file table trees.clustered
  pub has_leaves : trees.leaf_segments.items ≡ leaf_segments file table
  pub has_ends : AreEnds file table (index_count table) trees.ends

-- exactly the pages of trees and chains are marked
abbrev pub IsReached : List ℕ → TableDef → List Bool → Type 0
IsReached file table marks = (n : ℕ) → is_set marks n ≡ is_reached file table n

-- so many leaves are among the pages that were marked since, and so many steps were left over of two for each of these
-- pages
pub record LeavesRoom (leaves : ℕ) (before after : List Bool) (steps spent : ℕ) : Type 0 where
  pub fewer : leaves + unmarked after ≤ unmarked before
  pub cost : spent + 2 * unmarked after + leaves ≤ steps + 2 * unmarked before

-- so many leaves are among the marked ones of so many pages, none of which was marked before, and so many steps were
-- left over of two for each marked page
pub record LeavesSome (leaves : ℕ) (after : List Bool) (size steps spent : ℕ) : Type 0 where
  pub fewer : leaves + unmarked after ≤ size
  pub cost : spent + 2 * unmarked after + leaves ≤ steps + 2 * size

-- how many leaves these trees have
abbrev pub leaves_of : List TreeEnds → ℕ
leaves_of ends = sum_by (λ (e : TreeEnds). e.leaves) ends
