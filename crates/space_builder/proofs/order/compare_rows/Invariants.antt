use Rattle.std.proofs.Common.{◌≡◌}
use Rattle.column_values.specs.Order.{key_cmp}
use Rattle.compact_record.specs.Reading.{key_kinds}
use Rattle.row_layout.specs.HoldsValues.{stored_in}
use Rattle.space_builder.specs.calls.Picked.{picked_key}
use Rattle.compact_record.proofs.KeyOrders.{LeftOf}
use Rattle.space_builder.proofs.order.compare_rows.Given as goal

-- the fields so far are equal
abbrev pub invariant-loop-i : goal.invariant-loop-i
invariant-loop-i l =
    let a = picked_key l.fields (stored_in l.rows l.a) in
    let b = picked_key l.fields (stored_in l.rows l.b) in
    LeftOf (key_kinds l.list) a b l.i ≡ key_cmp (key_kinds l.list) a b
