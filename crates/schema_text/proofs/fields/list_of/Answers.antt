use Rattle.std.proofs.Common.{refl, arith}
use Rattle.schema_text.proofs.FieldLemmas.{may_follow}
use Rattle.schema_text.proofs.fields.list_of.Goals as goal

pub push-requires : goal.push-requires
push-requires c =
    rw c.loop-field.invariant
    (may_follow c.args.fields.now c.args.nullable c.args.keys c.loop-field.field-index _ _ c.requires
    (omega arith) refl)
