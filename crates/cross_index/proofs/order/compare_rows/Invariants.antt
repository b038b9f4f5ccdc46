use Rattle.std.proofs.Common.{◌≡◌}
use Rattle.column_values.specs.Order.{key_cmp}
use Rattle.compact_record.specs.Reading.{key_kinds}
use Rattle.cross_index.specs.calls.Kept.{kept_key}
use Rattle.compact_record.proofs.KeyOrders.{LeftOf}
use Rattle.cross_index.proofs.order.compare_rows.Given as goal

-- the fields so far are equal
abbrev pub invariant-loop-i : goal.invariant-loop-i
invariant-loop-i l =
    let cells = l.keys.cells.now in
    let a = kept_key cells l.keys.width l.keys.slots.now l.a in
    let b = kept_key cells l.keys.width l.keys.slots.now l.b in
    LeftOf (key_kinds l.keys.fields.now) a b l.i ≡ key_cmp (key_kinds l.keys.fields.now) a b
