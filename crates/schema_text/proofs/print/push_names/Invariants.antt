use Rattle.std.proofs.Common.{◌≡◌, ◌++◌, map, take}
use Rattle.schema_text.specs.declared.table.Column.{Column}
use Rattle.schema_text.specs.IndexFields.{columns_at}
use Rattle.schema_text.specs.Printing.{spaced}
use Rattle.schema_text.proofs.print.push_names.Given as goal

abbrev pub invariant-loop-position : goal.invariant-loop-position
invariant-loop-position l =
    l.text ≡ l.initial.text
    ++ spaced (map (λ (c : Column). c.name) (columns_at l.columns (take l.position-index l.positions)))
