use Rattle.std.proofs.Common.{◌<◌, List, ℕ, length, All, sym, ap, ◌∙◌, subst}
use Rattle.std.proofs.lemmas.Result.{on_ok_weaker}
use Rattle.column_values.specs.Types.{Fields}
use Rattle.row_store.proofs.NextRows.{row_filled}
use Rattle.row_store.proofs.Shapes.{others_known, length-stored_row}
use Rattle.row_store.proofs.next_row.fill_row.Goals as goal

pub push_columns-requires-clause-known : goal.push_columns-requires-clause-known
push_columns-requires-clause-known c =
    let table = c.args.schema.now in
    subst (λ (places : List ℕ). All (λ i. i < length table.columns) places)
    (sym (c.deref.ensures.value ∙ c.requires.shape.others)) (others_known table)

pub returns-clause-filled : goal.returns-clause-filled
returns-clause-filled c =
    on_ok_weaker c.push_columns.result
    (λ last. row_filled c.args.schema.now c.args.number c.args.values.now c.clear.new.self c.push_key.new.row
    c.push.new.self c.push-2.new.self c.push_columns.new.row c.deref.result.now c.clear.ensures
    c.in_ok-push_key.ensures c.in_ok-push.ensures c.in_ok-push-2.ensures
    (c.deref.ensures.value ∙ c.requires.shape.others) last) c.push_columns.ensures

pub returns-clause-each : goal.returns-clause-each
returns-clause-each c =
    on_ok_weaker c.push_columns.result
    (λ last. ap length (row_filled c.args.schema.now c.args.number c.args.values.now c.clear.new.self
    c.push_key.new.row c.push.new.self c.push-2.new.self c.push_columns.new.row c.deref.result.now c.clear.ensures
    c.in_ok-push_key.ensures c.in_ok-push.ensures c.in_ok-push-2.ensures
    (c.deref.ensures.value ∙ c.requires.shape.others) last)
    ∙ length-stored_row c.args.schema.now c.args.number c.args.values.now c.requires.shape.is_table
    ∙ ap (λ (f : Fields). length f.fields) (sym c.requires.shape.fields)) c.push_columns.ensures
