use Rattle.row_store.proofs.Sizes.{too_long_is}
use Rattle.row_store.proofs.fitting.is_too_long.Goals as goal

pub returns : goal.returns
returns c =
    too_long_is c.args.schema.now c.format.result c.args.fields.now c.args.row.now c.nullable.result
    c.fields_size-size.result c.saturating_add.result c.requires.list c.format.ensures c.requires.each
    c.nullable.ensures c.fields_size-size.ensures c.saturating_add.ensures
