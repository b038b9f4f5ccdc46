use Rattle.std.proofs.Common.{◌∙◌}
use Rattle.space_builder.proofs.building.KeyOrders.{order_from_rows}
use Rattle.space_builder.proofs.order.order_of_keys.Goals as goal

pub returns : goal.returns
returns c =
    order_from_rows c.args.list.now c.args.fields.now c.args.rows.now _ c.in_ok-order.order.items
    c.in_ok-numbers.numbers.items c.count.ensures (c.in_ok-numbers.ensures ∙ c.deref.ensures.value)
    c.in_ok-order.ensures
