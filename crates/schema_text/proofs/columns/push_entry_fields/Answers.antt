use Rattle.std.proofs.Common.{arith}
use Rattle.schema_text.proofs.EntryFields.{length_fields, entry_with_key, entry_with_id, is_none, is_some}
use Rattle.schema_text.proofs.columns.push_entry_fields.Goals as goal

pub push_columns-requires : goal.push_columns-requires
push_columns-requires c = λ k d inside.
    omega (
      arith,
      c.positions_at-own.ensures.known k d inside,
      length_fields c.args.schema.now c.args.at.now c.requires.columns,
    )

pub push_columns-requires-2 : goal.push_columns-requires-2
push_columns-requires-2 c = λ k d inside.
    omega (
      arith,
      c.positions_at-key.ensures.known k d inside,
      length_fields c.args.schema.now c.args.at.now c.requires.columns,
    )

pub returns-in_ok-push : goal.returns-in_ok-push
returns-in_ok-push c =
    entry_with_id c.args.schema.now c.args.index c.args.at.now c.positions_at-own.result.now
    c.positions_at-key.result.now
    c.args.list.now.items c.push_columns.new.list.items c.push_columns-2.new.list.items c.requires.columns
    c.positions_at-own.ensures.value c.positions_at-key.ensures.value c.positions_at-own.ensures.known
    c.positions_at-key.ensures.known c.in_ok-push_columns.ensures c.in_ok-push_columns-2.ensures
    (is_none _ c.if-key-eq0.true) _ c.in_ok-push.ensures.items

pub returns-else-key-eq0 : goal.returns-else-key-eq0
returns-else-key-eq0 c =
    entry_with_key c.args.schema.now c.args.index c.args.at.now c.positions_at-own.result.now
    c.positions_at-key.result.now
    c.args.list.now.items c.push_columns.new.list.items c.push_columns-2.new.list.items c.requires.columns
    c.positions_at-own.ensures.value c.positions_at-key.ensures.value c.positions_at-own.ensures.known
    c.positions_at-key.ensures.known c.in_ok-push_columns.ensures c.in_ok-push_columns-2.ensures
    (is_some _ c.if-key-eq0.false)
