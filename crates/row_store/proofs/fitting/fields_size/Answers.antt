use Rattle.std.proofs.Common.{◌≡◌, ap, ◌∙◌, arith}
use Rattle.column_values.specs.declared.field.Field.{Field}
use Rattle.column_values.specs.Types.{field_at}
use Rattle.row_layout.specs.StoredRow.{stored_at}
use Rattle.row_store.specs.calls.RowFields.{length_length}
use Rattle.row_store.proofs.Sizes.{sizes_more}
use Rattle.row_store.proofs.fitting.fields_size.Goals as goal

pub loop-i-preserved : goal.loop-i-preserved
loop-i-preserved c =
    let more = sizes_more c.args.format c.args.fields.now c.args.row.now c.loop-i.i in
    let field = stored_at c.args.row.now c.loop-i.i in
    let one : c.length_length.result ≡ length_length c.args.format (field_at c.args.fields.now c.loop-i.i) field =
    c.length_length.ensures.value
    ∙ ap (λ (f : Field). length_length c.args.format f field) c.field_at-field.ensures in
    let two = c.local_length.ensures in
    let a = c.saturating_add-size.ensures in
    let b = c.saturating_add-size-in-loop-i.ensures in
    omega arith
