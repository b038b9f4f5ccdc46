use Rattle.std.proofs.Common.{◌≡◌}
use Rattle.column_values.specs.Order.{key_cmp}
use Rattle.compact_record.specs.Reading.{key_kinds}
use Rattle.row_layout.specs.HoldsValues.{stored_in}
use Rattle.row_store.specs.calls.NextRow.{first_cells}
use Rattle.compact_record.proofs.KeyOrders.{LeftOf}
use Rattle.row_store.proofs.next_row.compare_keys.Given as goal

-- the fields so far are equal
abbrev pub invariant-loop-i : goal.invariant-loop-i
invariant-loop-i l =
    let a = first_cells l.fields.keys (stored_in l.rows l.last) in
    let b = first_cells l.fields.keys l.row in
    LeftOf (key_kinds l.fields) a b l.i ≡ key_cmp (key_kinds l.fields) a b
