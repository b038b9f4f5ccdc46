use Rattle.std.proofs.Common.{List, drop, All, sym, subst}
use Rattle.schema_text.specs.declared.table.Column.{Column}
use Rattle.schema_text.specs.Refusals.{KeyChecks}
use Rattle.schema_text.specs.Cuts.{IsAmong}
use Rattle.schema_text.proofs.read.index_of.Goals as goal

pub places_of-requires-clause-known : goal.places_of-requires-clause-known
unfolding KeyChecks
places_of-requires-clause-known c =
    subst (λ (columns : List Column). All (IsAmong columns) (drop c.args.from c.args.line.now))
    (sym c.columns-2.ensures.same) c.requires.checked.1.1.1.0
