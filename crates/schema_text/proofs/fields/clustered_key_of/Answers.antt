use Rattle.schema_text.proofs.FieldLemmas.{clustered_made}
use Rattle.schema_text.proofs.fields.clustered_key_of.Goals as goal

pub returns : goal.returns
returns c =
    clustered_made c.args.schema.now _ _ _ _ c.new-fields.ensures.items c.columns.ensures.same
    c.positions_at.ensures.value c.in_ok-push_row_key.ensures
