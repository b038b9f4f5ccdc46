use Rattle.std.proofs.Common.{refl, ◌<◌, length, ap, ◌∙◌, sym, arith}
use Rattle.schema_text.proofs.ColumnFields.{first_none, first_in_key, first_behind, same_key}
use Rattle.schema_text.proofs.columns.column_fields.Goals as goal
use Rattle.schema_text.proofs.columns.column_fields.Goals.{in-Some+in_ok-push-in-Some, in-None+in_ok-push-in-None}

pub loop-column-init : goal.loop-column-init
loop-column-init c =
    rw c.key_fields-next.ensures (first_none c.args.schema.now c.items-key.result.now _ c.new-list.ensures.items)

pub loop-column-preserved : goal.loop-column-preserved
loop-column-preserved c =
    let table = c.args.schema.now in
    let key = c.items-key.result.now in
    let same = same_key table _ _ key c.indexes.ensures.table c.indexes.ensures.same c.items-key.ensures in
    let within : c.loop-column.column < length table.columns = omega (
      arith,
      ap length
          c.columns-column-end.ensures.same,
      c.loop-column-test.true,
    ) in
    elim c.match-place_in_key.branch [
      | in-Some+in_ok-push-in-Some w ↦ rw (w.list-is, w.next-is)
          (first_in_key table key _ _ _ _ _ same (sym w.in-Some.is ∙ c.place_in_key.ensures.value)
          w.in_ok-push-in-Some.ensures.items c.loop-column.invariant)
      | in-None+in_ok-push-in-None w ↦ rw (w.list-is, w.next-is)
          (first_behind table key _ _ _ _ _ c.indexes.ensures.table within same (sym w.in-None.is ∙
          c.place_in_key.ensures.value)
          w.in_ok-push-in-None.ensures.items refl c.loop-column.invariant)
    ]
