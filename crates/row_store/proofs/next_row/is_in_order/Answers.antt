use Rattle.std.proofs.Common.{◌≤◌, length, sym, subst}
use Rattle.column_values.specs.Types.{Fields}
use Rattle.row_store.proofs.Shapes.{keys_within}
use Rattle.row_store.proofs.next_row.is_in_order.Goals as goal

pub compare_keys-requires-clause-keys : goal.compare_keys-requires-clause-keys
compare_keys-requires-clause-keys c =
    subst (λ (f : Fields). f.keys ≤ length f.fields) (sym c.requires.shape.fields) (keys_within c.args.schema.now)
