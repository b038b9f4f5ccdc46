use Rattle.std.proofs.Common.{◌≡◌, ◌++◌, map, take}
use Rattle.row_layout.specs.StoredRow.{stored_column}
use Rattle.row_store.proofs.next_row.push_columns.Given as goal

abbrev pub invariant-loop-place : goal.invariant-loop-place
invariant-loop-place l = l.row ≡ l.fn.row ++ map (stored_column l.schema l.values) (take l.place-index l.places)
