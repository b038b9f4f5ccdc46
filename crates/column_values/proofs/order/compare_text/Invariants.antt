use Rattle.std.proofs.Common.{◌≡◌}
use Rattle.column_values.specs.Order.{text_cmp}
use Rattle.column_values.proofs.TextOrder.{TextLeft}
use Rattle.column_values.proofs.order.compare_text.Given as goal

abbrev pub invariant-loop-i : goal.invariant-loop-i
invariant-loop-i l = TextLeft l.a l.b l.i ≡ text_cmp l.a l.b
