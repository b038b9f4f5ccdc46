-- The keys of two field lists (rem0rec, dict0dict).
use Rattle.std.specs.Prelude.{◌≡◌, ◌≤◌, length}
use Rattle.column_values.specs.Types.{Fields}
use Rattle.compact_record.specs.Reading.{key_kinds}

-- records of these fields have keys of the same kinds
pub record HaveOneKey (fields node : Fields) : Type 0 where
  pub few : fields.keys ≤ length fields.fields
  pub node_few : node.keys ≤ length node.fields
  pub kinds : key_kinds node ≡ key_kinds fields
