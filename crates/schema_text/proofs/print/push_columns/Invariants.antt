use Rattle.std.proofs.Common.{◌≡◌, ◌++◌, take}
use Rattle.std.specs.Prelude.{flat_map}
use Rattle.schema_text.specs.declared.table.Column.{Column}
use Rattle.schema_text.specs.Grammar.{line_of, column_words}
use Rattle.schema_text.proofs.print.push_columns.Given as goal

abbrev pub invariant-loop-column : goal.invariant-loop-column
invariant-loop-column l =
    l.text ≡ l.initial.text ++ flat_map (λ (c : Column). line_of (column_words c)) (take l.column-index l.columns)
