use Rattle.std.proofs.Common.{arith}
use Rattle.row_store.proofs.NextRows.{length-values, value_fits, columns_more}
use Rattle.row_store.proofs.next_row.push_columns.Goals as goal

pub bounds-values-c : goal.bounds-values-c
bounds-values-c c =
    let long = length-values c.args.schema.now c.args.values.now c.requires.is_row in
    let known = c.requires.known c.loop-place.place-index 0 c.loop-place-test.true in
    omega (arith, long, known, c.from-c.ensures)

pub push_value-requires-clause-fits : goal.push_value-requires-clause-fits
push_value-requires-clause-fits c =
    let known = c.requires.known c.loop-place.place-index 0 c.loop-place-test.true in
    value_fits c.args.schema.now c.columns-columns.result.now c.args.values.now c.from-c.result
    c.index-columns-c.result c.index-values-c.result c.requires.is_row c.columns-columns.ensures.same
    (omega (arith, known, c.from-c.ensures)) c.index-columns-c.is c.index-values-c.is

pub loop-place-preserved : goal.loop-place-preserved
loop-place-preserved c =
    let known = c.requires.known c.loop-place.place-index 0 c.loop-place-test.true in
    columns_more c.args.schema.now c.columns-columns.result.now c.args.values.now c.args.places.now c.args.row.now
    c.loop-place.row c.push_value.new.row c.loop-place.place-index c.from-c.result c.index-columns-c.result
    c.index-values-c.result c.requires.is_row c.columns-columns.ensures.same c.loop-place.invariant
    c.loop-place-test.true c.from-c.ensures (omega (arith, known, c.from-c.ensures)) c.index-columns-c.is
    c.index-values-c.is c.in_ok-push_value.ensures
