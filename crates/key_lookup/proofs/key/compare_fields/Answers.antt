use Rattle.std.proofs.Common.{arith}
use Rattle.compact_record.proofs.KeySteps.{key_decides}
use Rattle.key_lookup.proofs.key.compare_fields.Goals as goal

pub returns-in-Less : goal.returns-in-Less
returns-in-Less c =
    let r = c.requires in
    let few = c.keys-i-end.ensures in
    key_decides c.args.page.now c.args.bytes.now c.args.fields.now c.args.a.now c.args.b.now c.loop-i.i _ _ _ _ _ _
    r.few r.first_long r.second_long (omega (arith, few)) c.field_at-field.ensures c.place_at-here.ensures.same
    c.cell_place-there.ensures.same c.compare_cells-order.ensures c.in-Less.is c.loop-i.invariant

pub returns-in-Greater : goal.returns-in-Greater
returns-in-Greater c =
    let r = c.requires in
    let few = c.keys-i-end.ensures in
    key_decides c.args.page.now c.args.bytes.now c.args.fields.now c.args.a.now c.args.b.now c.loop-i.i _ _ _ _ _ _
    r.few r.first_long r.second_long (omega (arith, few)) c.field_at-field.ensures c.place_at-here.ensures.same
    c.cell_place-there.ensures.same c.compare_cells-order.ensures c.in-Greater.is c.loop-i.invariant

pub loop-i-preserved : goal.loop-i-preserved
loop-i-preserved c =
    let r = c.requires in
    let few = c.keys-i-end.ensures in
    key_decides c.args.page.now c.args.bytes.now c.args.fields.now c.args.a.now c.args.b.now c.loop-i.i _ _ _ _ _ _
    r.few r.first_long r.second_long (omega (arith, few)) c.field_at-field.ensures c.place_at-here.ensures.same
    c.cell_place-there.ensures.same c.compare_cells-order.ensures c.in-Equal.is c.loop-i.invariant
