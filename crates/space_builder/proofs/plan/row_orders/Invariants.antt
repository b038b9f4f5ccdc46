use Rattle.std.proofs.Common.{◌≡◌, ℕ, ◌<◌, length, get_or}
use Rattle.space_builder.specs.declared.plan.RowOrder.{RowOrder}
use Rattle.space_builder.specs.calls.Order.{IsIndexOrder}
use Rattle.space_builder.proofs.plan.row_orders.Given as goal

-- those of the indexes so far
abbrev pub invariant-loop-index : goal.invariant-loop-index
invariant-loop-index l = record {
  count : length l.orders.items ≡ l.index;
  each : (j : ℕ) (d : RowOrder) → 0 < j → j < l.index
      → IsIndexOrder l.schema l.rows j (get_or l.orders.items j d).rows.items;
}
