use Rattle.std.proofs.Common.{◌∙◌, sym, refl, arith}
use Rattle.schema_text.proofs.EntryFields.{column_passed, column_added}
use Rattle.schema_text.proofs.columns.push_columns.Goals as goal
use Rattle.schema_text.proofs.columns.push_columns.Goals.{then-not-is_among+in_ok-push, else-not-is_among}

pub loop-column-preserved : goal.loop-column-preserved
loop-column-preserved c =
    elim c.if-not-is_among.branch [
      | then-not-is_among+in_ok-push w ↦
          rw w.list-is
          (column_added c.args.at.now c.args.columns.now c.args.others.now c.args.list.now.items
          c.loop-column.list.items c.loop-column.column-index 0 c.from-place.result (omega arith)
          c.from-place.ensures c.loop-column.invariant _ _
          (sym c.is_among.ensures ∙ w.if-not-is_among.true) refl w.in_ok-push.ensures.items)
      | else-not-is_among w ↦
          rw w.list-is
          (column_passed c.args.at.now c.args.columns.now c.args.others.now c.args.list.now.items
          c.loop-column.list.items c.loop-column.column-index 0 c.from-place.result (omega arith)
          c.from-place.ensures c.loop-column.invariant (sym c.is_among.ensures ∙ w.if-not-is_among.false))
    ]
