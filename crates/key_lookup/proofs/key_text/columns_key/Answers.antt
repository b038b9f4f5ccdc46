use Rattle.std.proofs.Common.{ap, length, arith}
use Rattle.row_text.specs.KeyText.{key_columns}
use Rattle.key_lookup.proofs.KeyCells.{fitting_count, fits_at, value_of, value_read, key_more, key_whole}
use Rattle.key_lookup.proofs.key_text.columns_key.Goals as goal

pub key_column-requires : goal.key_column-requires
key_column-requires c =
    omega (
      arith,
      fitting_count (key_columns c.args.schema.now) c.args.row.now c.requires,
      ap length c.values-value-items.ensures,
      c.loop-i-test.true,
    )

pub push_column-requires-clause-is : goal.push_column-requires-clause-is
push_column-requires-clause-is c =
    value_of c.key_column.result.now c.value-item.result
    (fits_at (key_columns c.args.schema.now) c.args.row.now c.loop-i.i c.key_column.result.now c.value-item.result
    c.requires c.key_column.ensures.at
    (value_read c.args.row.now c.values-value-items.result.now c.loop-i.i c.value-item.result
    c.values-value-items.ensures c.loop-i-test.true c.value-item.is))
    c.key_column.ensures.held

pub loop-i-preserved : goal.loop-i-preserved
loop-i-preserved c =
    key_more (key_columns c.args.schema.now) c.args.row.now c.loop-i.key c.push_column.new.key c.loop-i.i
    c.key_column.result.now c.value-item.result c.loop-i.invariant c.in_ok-push_column.ensures
    c.key_column.ensures.at
    (value_read c.args.row.now c.values-value-items.result.now c.loop-i.i c.value-item.result
    c.values-value-items.ensures c.loop-i-test.true c.value-item.is)

pub returns : goal.returns
returns c =
    key_whole (key_columns c.args.schema.now) c.args.row.now c.loop-i.key c.loop-i.i c.requires c.loop-i.invariant
    (omega (arith, ap length c.values-value-items.ensures, c.loop-i-test.false, c.loop-i.auto.i-end))
