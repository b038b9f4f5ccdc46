-- The room that a walk works in.
use Rattle.std.specs.Prelude.{◌≡◌, ℕ, ◌≤◌, length}
use Rattle.column_values.specs.Types.{Fields, AreOfOneIndex}
use Rattle.tree_walk.specs.declared.walk.Walk.{Walk}

-- there is room for records of so many fields
pub record HasRoom (walk : Walk) (members : ℕ) : Type 0 where
  pub scratch : members ≤ walk.scratch
  pub low : members ≤ walk.low.members
  pub high : members ≤ walk.high.members
  pub first : members ≤ walk.first.members
  pub last : members ≤ walk.last.members

-- the room is as it was
pub record HasSameRoom (old new : Walk) : Type 0 where
  pub scratch : new.scratch ≡ old.scratch
  pub low : new.low.members ≡ old.low.members
  pub high : new.high.members ≡ old.high.members
  pub first : new.first.members ≡ old.first.members
  pub last : new.last.members ≡ old.last.members

-- the field lists are those of one index, and there is room for either
pub record CanWalk (walk : Walk) (leaf node : Fields) : Type 0 where
  pub lists : AreOfOneIndex leaf node
  pub leaf_room : HasRoom walk (length leaf.fields)
  pub node_room : HasRoom walk (length node.fields)
