use Rattle.std.proofs.Common.{◌≡◌, ◌<◌, length, get_or, sym, ap, ◌∙◌, arith}
use Rattle.column_values.specs.declared.field.Field.{Field}
use Rattle.column_values.specs.Types.{Fields, field_at}
use Rattle.schema_text.specs.declared.table.Format.{Format}
use Rattle.row_layout.specs.StoredRow.{stored_at, going_length, going_lengths}
use Rattle.row_store.proofs.Longest.{longest_new, longest_old, length-going, going_at, goes_none, goes_some}
use Rattle.row_store.proofs.fitting.goes_next.Goals as goal
use Rattle.row_store.proofs.fitting.goes_next.Goals.{then-length-most, else-length-most}

pub loop-i-preserved : goal.loop-i-preserved
loop-i-preserved c =
    let table = c.args.schema.now in
    let row = c.args.row.now in
    let i = c.loop-i.i in
    let stored = stored_at row i in
    let size = length-going table row in
    let below : i < length row = omega (arith, c.loop-i-test.true, c.len-i-end.ensures) in
    let inside : i < length (going_lengths table row) = omega arith in
    let here : c.going_length-length.result ≡ get_or (going_lengths table row) i 0 =
    c.going_length-length.ensures
    ∙ ap (λ (q : Format). going_length q c.field_at-field.result stored) c.format-format.ensures
    ∙ ap (λ (f : Field). going_length table.format f stored)
    (c.field_at-field.ensures ∙ ap (λ (f : Fields). field_at f i) c.requires.list)
    ∙ sym (going_at table row i below) in
    elim c.if-length-most.branch [
      | then-length-most w ↦
          rw (w.most-is, w.place-is)
          (longest_new (going_lengths table row) i c.loop-i.most c.loop-i.place c.going_length-length.result
          c.loop-i.invariant inside here w.if-length-most.true)
      | else-length-most w ↦
          rw (w.most-is, w.place-is)
          (longest_old (going_lengths table row) i c.loop-i.most c.loop-i.place c.going_length-length.result
          c.loop-i.invariant inside here w.if-length-most.false)
    ]

pub returns-then-most-eq0 : goal.returns-then-most-eq0
returns-then-most-eq0 c =
    goes_none c.args.schema.now c.args.row.now c.loop-i.i c.loop-i.most c.loop-i.place c.loop-i.invariant
    (omega (arith, c.loop-i-test.false, c.len-i-end.ensures)) c.if-most-eq0.true

pub returns-else-most-eq0 : goal.returns-else-most-eq0
returns-else-most-eq0 c =
    goes_some c.args.schema.now c.args.row.now c.loop-i.i c.loop-i.most c.loop-i.place c.loop-i.invariant
    (omega (arith, c.loop-i-test.false, c.len-i-end.ensures))
    (omega (arith, c.loop-i.auto.i-end, c.len-i-end.ensures)) c.if-most-eq0.false
