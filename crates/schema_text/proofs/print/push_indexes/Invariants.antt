use Rattle.std.proofs.Common.{◌≡◌, ◌++◌, take}
use Rattle.std.specs.Prelude.{flat_map}
use Rattle.schema_text.specs.declared.table.IndexDef.{IndexDef}
use Rattle.schema_text.specs.Grammar.{line_of}
use Rattle.schema_text.specs.Printing.{index_by}
use Rattle.schema_text.proofs.print.push_indexes.Given as goal

abbrev pub invariant-loop-index : goal.invariant-loop-index
invariant-loop-index l =
    l.text ≡ l.initial.text
    ++ flat_map (λ (x : IndexDef). line_of (index_by l.columns x)) (take l.index-index l.indexes)
