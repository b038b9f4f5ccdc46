use Rattle.std.proofs.Common.{length, Err, subst, arith}
use Rattle.std.proofs.lemmas.List.{drop_all}
use Rattle.schema_text.specs.IndexFields.{clustered_positions}
use Rattle.row_text.specs.declared.row.RowError.{RowError}
use Rattle.row_text.specs.KeyText.{key_columns}
use Rattle.row_text.specs.calls.Rows.{ReadsNext}
use Rattle.row_text.proofs.Errors.{values_failed}
use Rattle.row_text.proofs.Keys.{key_next, key_size}
use Rattle.row_text.proofs.Reading.{read_over, read_all, some_left}
use Rattle.row_text.proofs.read.read_key_columns.Goals as goal

pub returns-in_err-at : goal.returns-in_err-at
returns-in_err-at c =
    let table = c.args.schema.now in
    let items = c.key_places-place-items in
    let l = c.loop-place in
    let next = key_next table.columns c.columns-columns.result.now (clustered_positions table) items.result.now
    l.place-index (length l.row) c.from.result c.index-columns-from.result items.ensures.same
    c.columns-columns.ensures.same
    items.ensures.within l.invariant.counted c.loop-place-test.true c.from.ensures c.index-columns-from.is in
    values_failed (key_columns table) c.args.text.now c.from_residual.result c.in_err-at.field-0.0
    c.from_residual.ensures.1
    (λ refused. subst (λ (e : RowError). ReadsNext (key_columns table) c.args.text.now c.read_next.new.row
    (Err e)) refused
    (c.in_err-at.ensures.next (key_columns table) next l.invariant.read))

pub loop-place-preserved : goal.loop-place-preserved
loop-place-preserved c =
    let table = c.args.schema.now in
    let items = c.key_places-place-items in
    let l = c.loop-place in
    let next = key_next table.columns c.columns-columns.result.now (clustered_positions table) items.result.now
    l.place-index (length l.row) c.from.result c.index-columns-from.result items.ensures.same
    c.columns-columns.ensures.same
    items.ensures.within l.invariant.counted c.loop-place-test.true c.from.ensures c.index-columns-from.is in
    record {
      read = c.in_ok-at.ensures.next (key_columns table) next l.invariant.read;
      counted = omega (arith, c.in_ok-at.ensures.counts, l.invariant.counted);
      inside = c.in_ok-at.ensures.within;
    }

pub returns-then-at-text : goal.returns-then-at-text
returns-then-at-text c =
    let table = c.args.schema.now in
    let items = c.key_places-place-items in
    let l = c.loop-place in
    let size = key_size table.columns
    (clustered_positions table) items.result.now items.ensures.same items.ensures.within in
    read_over (key_columns table) c.args.text.now l.row l.at l.invariant.read (omega (arith, l.invariant.counted, size))
    (some_left c.args.text.now l.at c.if-at-text.true)

pub returns : goal.returns
returns c =
    let table = c.args.schema.now in
    let items = c.key_places-place-items in
    let l = c.loop-place in
    let size = key_size table.columns
    (clustered_positions table) items.result.now items.ensures.same items.ensures.within in
    read_all (key_columns table) c.args.text.now l.row l.at l.invariant.read (omega (arith, l.invariant.counted, size))
    (drop_all l.at c.args.text.now (omega arith))
