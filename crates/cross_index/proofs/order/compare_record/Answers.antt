use Rattle.std.proofs.Common.{arith}
use Rattle.cross_index.proofs.CellSteps.{record_decides}
use Rattle.cross_index.proofs.order.compare_record.Goals as goal

pub returns-in-Less : goal.returns-in-Less
returns-in-Less c =
    record_decides c.args.keys.now.cells.now c.args.keys.now.width c.args.keys.now.fields.now c.args.keys.now.slots.now
    (omega (arith, c.len-count.ensures, c.len-count.type_inv)) c.requires.few c.requires.each c.args.page.now
    c.args.places.now c.args.row c.loop-i.i _ _ _ _ _ _ _ c.requires.long c.loop-i-test.true c.field_at-field.ensures
    c.place_at-place.ensures.same c.cell_number-number.ensures c.compare_field-order.ensures c.in-Less.is
    c.loop-i.invariant

pub returns-in-Greater : goal.returns-in-Greater
returns-in-Greater c =
    record_decides c.args.keys.now.cells.now c.args.keys.now.width c.args.keys.now.fields.now c.args.keys.now.slots.now
    (omega (arith, c.len-count.ensures, c.len-count.type_inv)) c.requires.few c.requires.each c.args.page.now
    c.args.places.now c.args.row c.loop-i.i _ _ _ _ _ _ _ c.requires.long c.loop-i-test.true c.field_at-field.ensures
    c.place_at-place.ensures.same c.cell_number-number.ensures c.compare_field-order.ensures c.in-Greater.is
    c.loop-i.invariant

pub loop-i-preserved : goal.loop-i-preserved
loop-i-preserved c =
    record_decides c.args.keys.now.cells.now c.args.keys.now.width c.args.keys.now.fields.now c.args.keys.now.slots.now
    (omega (arith, c.len-count.ensures, c.len-count.type_inv)) c.requires.few c.requires.each c.args.page.now
    c.args.places.now c.args.row c.loop-i.i _ _ _ _ _ _ _ c.requires.long c.loop-i-test.true c.field_at-field.ensures
    c.place_at-place.ensures.same c.cell_number-number.ensures c.compare_field-order.ensures c.in-Equal.is
    c.loop-i.invariant
