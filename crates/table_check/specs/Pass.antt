-- A pass over all leaves of a tree, without a look at their records (btr0cur).
use Rattle.std.specs.Prelude.{◌-◌, ⊤, length, Result, Ok, Err}
use Rattle.page_source.specs.declared.checks.Halt.{Halt}
use Rattle.page_source.specs.declared.checks.Halt.TheVariants.{Broken, Source}
use Rattle.tree_walk.specs.declared.leaves.leaf.Leaf.{Leaf}
use Rattle.tree_walk.specs.Index.{Index, leaf_pages}
use Rattle.tree_walk.specs.Leaf.{IsOnLeaf}

-- the last leaf of the tree is in hand; the pass never breaks off
abbrev pub PassesLeaves : {A : Type 0} → Index → Result A Halt → Leaf → Type 0
PassesLeaves index (Ok all) leaf = IsOnLeaf index leaf (length (leaf_pages index) - 1)
PassesLeaves index (Err (Broken fault)) leaf = ⊥
PassesLeaves index (Err Source) leaf = ⊤
