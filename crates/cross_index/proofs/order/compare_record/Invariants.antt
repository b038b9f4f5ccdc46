use Rattle.std.proofs.Common.{◌≡◌}
use Rattle.column_values.specs.Order.{key_cmp}
use Rattle.compact_record.specs.Reading.{key_kinds}
use Rattle.compact_record.specs.Keys.{key_at}
use Rattle.cross_index.specs.calls.Kept.{kept_key}
use Rattle.compact_record.proofs.KeyOrders.{LeftOf}
use Rattle.cross_index.proofs.order.compare_record.Given as goal

-- the fields so far are equal
abbrev pub invariant-loop-i : goal.invariant-loop-i
invariant-loop-i l =
    let a = key_at l.page l.keys.fields.now l.places in
    let b = kept_key l.keys.cells.now l.keys.width l.keys.slots.now l.row in
    LeftOf (key_kinds l.keys.fields.now) a b l.i ≡ key_cmp (key_kinds l.keys.fields.now) a b
