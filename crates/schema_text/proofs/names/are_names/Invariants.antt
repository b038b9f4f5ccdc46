use Rattle.std.specs.List.{AllWithin}
use Rattle.schema_text.specs.Grammar.{IsName}
use Rattle.schema_text.proofs.names.are_names.Given as goal

abbrev pub invariant-loop-i : goal.invariant-loop-i
invariant-loop-i l = AllWithin IsName l.line l.from l.i
