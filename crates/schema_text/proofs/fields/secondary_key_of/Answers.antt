use Rattle.schema_text.proofs.FieldLemmas.{secondary_made}
use Rattle.schema_text.proofs.fields.secondary_key_of.Goals as goal

pub returns : goal.returns
returns c =
    secondary_made c.args.schema.now c.args.index _ _ _ _ _ _ _ c.new-fields.ensures.items c.columns.ensures.same
    c.columns-2.ensures.same c.positions_at-own.ensures.value c.positions_at.ensures.value
    c.in_ok-push_kept.ensures c.in_ok-push_row_key.ensures
