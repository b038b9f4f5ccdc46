use Rattle.std.proofs.Common.{refl, arith}
use Rattle.compact_record.specs.Reading.{key_kinds}
use Rattle.compact_record.specs.Keys.{key_at}
use Rattle.cross_index.proofs.EntrySteps.{order_below, meets_below, meets_above, meets_equal}
use Rattle.cross_index.proofs.entries.meet.Goals as goal

pub row_number-requires-clause-below : goal.row_number-requires-clause-below
row_number-requires-clause-below c =
    order_below (key_kinds c.args.asked.now.keys.fields.now) c.args.asked.now.keys.cells.now
    c.args.asked.now.keys.width c.args.asked.now.keys.slots.now c.args.asked.now.order.now c.requires.order

pub returns-in-Less : goal.returns-in-Less
returns-in-Less c = (
  refl,
  refl,
  λ inside.
      meets_below (key_kinds c.args.asked.now.keys.fields.now) c.args.asked.now.keys.cells.now
      c.args.asked.now.keys.width c.args.asked.now.keys.slots.now c.args.asked.now.order.now c.requires.order
      (key_at c.args.page.now c.args.asked.now.keys.fields.now c.args.places.now) c.args.next _
      c.compare_record.result inside c.compare_record.ensures c.in-Less.is,
)

pub returns-in-Greater : goal.returns-in-Greater
returns-in-Greater c = (
  refl,
  omega (arith, c.if-next-asked.false),
  c.row_number.ensures,
  meets_above (key_kinds c.args.asked.now.keys.fields.now) c.args.asked.now.keys.cells.now
      c.args.asked.now.keys.width c.args.asked.now.keys.slots.now c.args.asked.now.order.now c.requires.order
      (key_at c.args.page.now c.args.asked.now.keys.fields.now c.args.places.now) c.args.next _
      c.compare_record.result (omega (arith, c.if-next-asked.false)) c.compare_record.ensures c.in-Greater.is,
)

pub returns-in-Equal : goal.returns-in-Equal
returns-in-Equal c = (
  omega (arith, c.if-next-asked.false),
  meets_equal (key_kinds c.args.asked.now.keys.fields.now) c.args.asked.now.keys.cells.now
      c.args.asked.now.keys.width c.args.asked.now.keys.slots.now c.args.asked.now.order.now c.requires.order
      (key_at c.args.page.now c.args.asked.now.keys.fields.now c.args.places.now) c.args.next _
      c.compare_record.result (omega (arith, c.if-next-asked.false)) c.compare_record.ensures c.in-Equal.is,
)
