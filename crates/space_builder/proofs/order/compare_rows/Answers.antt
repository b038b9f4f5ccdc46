use Rattle.std.proofs.Common.{refl, get_or}
use Rattle.row_layout.specs.HoldsValues.{stored_in}
use Rattle.space_builder.proofs.building.KeyOrders.{rows_decide}
use Rattle.space_builder.proofs.order.compare_rows.Goals as goal

pub returns-in-Less : goal.returns-in-Less
returns-in-Less c =
    rows_decide c.args.list.now c.args.fields.now (stored_in c.args.rows.now c.args.a)
    (stored_in c.args.rows.now c.args.b) c.requires.few c.requires.each c.loop-i.i
    (get_or c.args.fields.now c.loop-i.i 0) _ _ _ _ _ _
    c.loop-i-test.true refl c.kind_at-kind.ensures c.value-first.ensures c.value-second.ensures
    c.compare_values-order.ensures c.in-Less.is c.loop-i.invariant

pub returns-in-Greater : goal.returns-in-Greater
returns-in-Greater c =
    rows_decide c.args.list.now c.args.fields.now (stored_in c.args.rows.now c.args.a)
    (stored_in c.args.rows.now c.args.b) c.requires.few c.requires.each c.loop-i.i
    (get_or c.args.fields.now c.loop-i.i 0) _ _ _ _ _ _
    c.loop-i-test.true refl c.kind_at-kind.ensures c.value-first.ensures c.value-second.ensures
    c.compare_values-order.ensures c.in-Greater.is c.loop-i.invariant

pub loop-i-preserved : goal.loop-i-preserved
loop-i-preserved c =
    rows_decide c.args.list.now c.args.fields.now (stored_in c.args.rows.now c.args.a)
    (stored_in c.args.rows.now c.args.b) c.requires.few c.requires.each c.loop-i.i
    (get_or c.args.fields.now c.loop-i.i 0) _ _ _ _ _ _
    c.loop-i-test.true refl c.kind_at-kind.ensures c.value-first.ensures c.value-second.ensures
    c.compare_values-order.ensures c.in-Equal.is c.loop-i.invariant
