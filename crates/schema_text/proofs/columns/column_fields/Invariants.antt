use Rattle.schema_text.proofs.ColumnFields.{AreFirst}
use Rattle.schema_text.proofs.columns.column_fields.Given as goal

abbrev pub invariant-loop-column : goal.invariant-loop-column
invariant-loop-column l = AreFirst l.schema l.key l.list.items l.next l.column
