use Rattle.std.proofs.Common.{◌≡◌, List, ℕ}
use Rattle.std.specs.List.{AllWithin, Any}
use Rattle.schema_text.specs.declared.table.Column.{Column}
use Rattle.schema_text.proofs.names.are_declared.Given as goal

abbrev pub invariant-loop-i : goal.invariant-loop-i
invariant-loop-i l = AllWithin (λ (name : List ℕ). Any (λ (c : Column). c.name ≡ name) l.columns) l.line l.from l.i
