use Rattle.std.proofs.Common.{ℕ, List, Option, ap, ◌∙◌, arith}
use Rattle.std.specs.Option.{option_copied}
use Rattle.column_values.specs.Order.{cell_cmp}
use Rattle.column_values.specs.Types.{child_field}
use Rattle.row_layout.specs.StoredRow.{stored_at}
use Rattle.row_layout.specs.HoldsValues.{stored_in}
use Rattle.row_store.specs.StoredRows.{value_of}
use Rattle.row_store.proofs.NextRows.{fields_decide}
use Rattle.row_store.proofs.next_row.compare_keys.Goals as goal

pub returns-in-Less : goal.returns-in-Less
returns-in-Less c =
    let fields = c.args.fields.now in
    let kind = c.field_at-field.result.kind in
    let i = c.loop-i.i in
    let compared = c.compare_values-order.ensures
    ∙ ap (λ (v : Option (List ℕ)). cell_cmp kind v (option_copied c.value-in-loop-i.result)) c.value.ensures
    ∙ ap (cell_cmp kind (value_of (stored_at (stored_in c.args.rows.now c.args.last) i))) c.value-in-loop-i.ensures in
    fields_decide fields (stored_in c.args.rows.now c.args.last) c.args.row.now i child_field
    c.field_at-field.result c.compare_values-order.result _ _ c.requires.keys c.requires.first c.requires.second
    (omega (arith, c.loop-i-test.true, c.keys-i-end.ensures)) c.field_at-field.ensures compared
    c.in-Less.is c.loop-i.invariant

pub returns-in-Greater : goal.returns-in-Greater
returns-in-Greater c =
    let fields = c.args.fields.now in
    let kind = c.field_at-field.result.kind in
    let i = c.loop-i.i in
    let compared = c.compare_values-order.ensures
    ∙ ap (λ (v : Option (List ℕ)). cell_cmp kind v (option_copied c.value-in-loop-i.result)) c.value.ensures
    ∙ ap (cell_cmp kind (value_of (stored_at (stored_in c.args.rows.now c.args.last) i))) c.value-in-loop-i.ensures in
    fields_decide fields (stored_in c.args.rows.now c.args.last) c.args.row.now i child_field
    c.field_at-field.result c.compare_values-order.result _ _ c.requires.keys c.requires.first c.requires.second
    (omega (arith, c.loop-i-test.true, c.keys-i-end.ensures)) c.field_at-field.ensures compared
    c.in-Greater.is c.loop-i.invariant

pub loop-i-preserved : goal.loop-i-preserved
loop-i-preserved c =
    let fields = c.args.fields.now in
    let kind = c.field_at-field.result.kind in
    let i = c.loop-i.i in
    let compared = c.compare_values-order.ensures
    ∙ ap (λ (v : Option (List ℕ)). cell_cmp kind v (option_copied c.value-in-loop-i.result)) c.value.ensures
    ∙ ap (cell_cmp kind (value_of (stored_at (stored_in c.args.rows.now c.args.last) i))) c.value-in-loop-i.ensures in
    fields_decide fields (stored_in c.args.rows.now c.args.last) c.args.row.now i child_field
    c.field_at-field.result c.compare_values-order.result _ _ c.requires.keys c.requires.first c.requires.second
    (omega (arith, c.loop-i-test.true, c.keys-i-end.ensures)) c.field_at-field.ensures compared
    c.in-Equal.is c.loop-i.invariant
