-- The index that is walked: what a walk of it begins with, and what each step of the walk keeps.
use Rattle.std.specs.Prelude.{◌≡◌, Bool, List, ℕ, length, Result}
use Rattle.page_source.specs.declared.objects.PageSource.{Ghosts as FileOf}
use Rattle.page_source.specs.declared.checks.Halt.{Halt}
use Rattle.page_source.specs.Calls.{OfFile, HaltsOver}
use Rattle.space_audit.specs.Marks.{StaysMarked}
use Rattle.space_audit.specs.Space.{IsAuditOf}
use Rattle.tree_walk.specs.declared.index.Tree.{Tree}
use Rattle.tree_walk.specs.declared.walk.Walk.{Walk}
use Rattle.tree_walk.specs.Index.{Index, index_of}
use Rattle.tree_walk.specs.Room.{CanWalk, HasSameRoom}

-- the index of a file that a tree is
abbrev pub index_in : List ℕ → Tree → Index
index_in file tree = index_of file tree.root tree.leaf.now tree.node.now

-- what is said of the index that a tree is, if the file tells its bytes
abbrev pub OfIndex : {S : Type 0} → FileOf S → S → Tree → (Index → Type 0) → Type 0
OfIndex g source tree Fact = OfFile g source (λ file. Fact (index_in file tree))

-- the index can be walked: its space is the audit of the file, with a mark for each page, and there is room for its
-- records
pub record IsReady {S : Type 0} (g : FileOf S) (source : S) (tree : Tree) (walk : Walk) (marks : List Bool)
    : Type 0 where
  pub audit : OfFile g source (λ file. IsAuditOf file tree.space.now)
  pub members : length marks ≡ tree.space.now.size
  pub room : CanWalk walk tree.leaf.now tree.node.now

-- the index can still be walked: there are as many marks as before, what was marked is marked still, the room is the
-- same, and the file is as a call leaves it that halts
pub record StaysReady {S A : Type 0} (g : FileOf S) (old new : S) (steps steps_now : ℕ) (walk walk_now : Walk)
    (marks marks_now : List Bool) (result : Result A Halt) : Type 0 where
  pub members : length marks_now ≡ length marks
  pub marked : StaysMarked marks marks_now
  pub room : HasSameRoom walk walk_now
  pub over : HaltsOver g old new steps steps_now result
