use Rattle.std.proofs.Common.{◌≡◌, ◌-◌, ◌≤◌, flat_map}
use Rattle.std.specs.List.{range_with_len}
use Rattle.schema_text.specs.IndexFields.{entry_fields}
use Rattle.cross_index.proofs.kept.all_fields.Given as goal

-- the fields of the indexes so far
abbrev pub invariant-loop-index : goal.invariant-loop-index
invariant-loop-index l = record {
  some : 1 ≤ l.index;
  list : l.list.items ≡ flat_map (entry_fields l.schema) (range_with_len 1 (l.index - 1));
}
