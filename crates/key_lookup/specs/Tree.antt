-- The index that is looked into.
use Rattle.std.specs.Prelude.{ℕ, List}
use Rattle.page_source.specs.declared.objects.PageSource.{Ghosts as FileOf}
use Rattle.page_source.specs.Calls.{OfFile}
use Rattle.extent_map.specs.Head.{HasHeader, HasBounds}
use Rattle.tree_walk.specs.declared.walk.Walk.{Walk}
use Rattle.tree_walk.specs.Index.{Index, index_of}
use Rattle.tree_walk.specs.Room.{CanWalk}
use Rattle.key_lookup.specs.declared.tree.Tree.{Tree}

-- the index of a file that a tree is
abbrev pub index_in : List ℕ → Tree → Index
index_in file tree = index_of file tree.root tree.leaf.now tree.node.now

-- what is said of the index that a tree is, if the file tells its bytes
abbrev pub OfIndex : {S : Type 0} → FileOf S → S → Tree → (Index → Type 0) → Type 0
OfIndex g source tree Fact = OfFile g source (λ file. Fact (index_in file tree))

-- the index can be looked into: the header is that of the file, and there is room for its records
pub record IsReady {S : Type 0} (g : FileOf S) (source : S) (tree : Tree) (walk : Walk) : Type 0 where
  pub header : OfFile g source (λ file. HasHeader file tree.header.now)
  pub bounds : HasBounds tree.header.now
  pub room : CanWalk walk tree.leaf.now tree.node.now
