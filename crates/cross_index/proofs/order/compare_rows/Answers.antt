use Rattle.std.proofs.Common.{arith}
use Rattle.cross_index.proofs.CellSteps.{rows_decide}
use Rattle.cross_index.proofs.order.compare_rows.Goals as goal

pub returns-in-Less : goal.returns-in-Less
returns-in-Less c =
    rows_decide c.args.keys.now.cells.now c.args.keys.now.width c.args.keys.now.fields.now c.args.keys.now.slots.now
    (omega (arith, c.len-count.ensures, c.len-count.type_inv)) c.requires.few c.requires.each c.args.a c.args.b
    c.loop-i.i _ _ _ _ _ _ _ _ c.loop-i-test.true c.field_at-field.ensures c.cell_number-first.ensures
    c.cell_number-second.ensures c.compare-order.ensures c.in-Less.is c.loop-i.invariant

pub returns-in-Greater : goal.returns-in-Greater
returns-in-Greater c =
    rows_decide c.args.keys.now.cells.now c.args.keys.now.width c.args.keys.now.fields.now c.args.keys.now.slots.now
    (omega (arith, c.len-count.ensures, c.len-count.type_inv)) c.requires.few c.requires.each c.args.a c.args.b
    c.loop-i.i _ _ _ _ _ _ _ _ c.loop-i-test.true c.field_at-field.ensures c.cell_number-first.ensures
    c.cell_number-second.ensures c.compare-order.ensures c.in-Greater.is c.loop-i.invariant

pub loop-i-preserved : goal.loop-i-preserved
loop-i-preserved c =
    rows_decide c.args.keys.now.cells.now c.args.keys.now.width c.args.keys.now.fields.now c.args.keys.now.slots.now
    (omega (arith, c.len-count.ensures, c.len-count.type_inv)) c.requires.few c.requires.each c.args.a c.args.b
    c.loop-i.i _ _ _ _ _ _ _ _ c.loop-i-test.true c.field_at-field.ensures c.cell_number-first.ensures
    c.cell_number-second.ensures c.compare-order.ensures c.in-Equal.is c.loop-i.invariant
