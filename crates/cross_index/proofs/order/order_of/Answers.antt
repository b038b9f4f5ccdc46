use Rattle.compact_record.specs.Reading.{key_kinds}
use Rattle.cross_index.proofs.CellSteps.{order_is}
use Rattle.cross_index.proofs.order.order_of.Goals as goal

pub returns : goal.returns
returns c =
    order_is (key_kinds c.args.keys.now.fields.now) c.args.keys.now.cells.now c.args.keys.now.width
    c.args.keys.now.slots.now c.in_ok-order.order.items c.args.count c.in_ok-order.ensures.places
    c.in_ok-order.ensures.sorted
