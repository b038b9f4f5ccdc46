use Rattle.std.proofs.Common.{◌≡◌, ◌≤◌, take}
use Rattle.std.specs.List.{count_by}
use Rattle.column_values.specs.Utf8Blocks.{is_start}
use Rattle.column_values.proofs.utf8_blocks.starts.Given as goal

abbrev pub invariant-loop-i : goal.invariant-loop-i
invariant-loop-i l = record { few : l.count ≤ l.i; counted : l.count ≡ count_by is_start (take l.i l.bytes) }
