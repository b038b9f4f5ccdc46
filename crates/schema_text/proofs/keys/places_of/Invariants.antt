use Rattle.schema_text.specs.Cuts.{ArePlacesOf}
use Rattle.schema_text.proofs.KeyLemmas.{keys_between}
use Rattle.schema_text.proofs.keys.places_of.Given as goal

abbrev pub invariant-loop-i : goal.invariant-loop-i
invariant-loop-i l = ArePlacesOf l.columns (keys_between l.line l.from l.i) l.list.items
