use Rattle.std.proofs.Common.{◌∙◌, sym, ap, length, List, ℕ}
use Rattle.column_values.specs.Types.{Fields}
use Rattle.space_builder.proofs.building.PickedEntries.{keys_size}
use Rattle.space_builder.proofs.order.order_of_index.Goals as goal

pub order_of_keys-requires-clause-each : goal.order_of_keys-requires-clause-each
order_of_keys-requires-clause-each c =
    ap (λ (list : List ℕ). length list) (c.deref.ensures.value ∙ c.in_ok-fields.ensures)
    ∙ sym (keys_size c.args.schema.now c.indexes.ensures.table c.args.index c.requires.index c.requires.second)
    ∙ ap (λ (fields : Fields). fields.keys) (sym c.in_ok-list.ensures.value)
