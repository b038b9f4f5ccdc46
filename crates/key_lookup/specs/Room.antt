-- The memory of a look-up.
use Rattle.std.specs.Prelude.{◌≡◌}
use Rattle.column_values.specs.Types.{AreFields}
use Rattle.schema_text.specs.TableDef.{TableDef}
use Rattle.schema_text.specs.IndexFields.{leaf_fields, node_fields}
use Rattle.tree_walk.specs.Room.{CanWalk}
use Rattle.key_lookup.specs.declared.room.Room.{Room}

-- there is room for a look-up in the clustered index of the table
pub record IsRoomOf (table : TableDef) (room : Room) : Type 0 where
  pub leaf : room.leaf ≡ leaf_fields table 0
  pub node : room.node ≡ node_fields table 0
  pub fields : AreFields room.leaf
  pub walk : CanWalk room.walk room.leaf room.node
  pub reader : room.reader.table ≡ table
