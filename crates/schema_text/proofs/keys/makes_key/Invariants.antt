use Rattle.schema_text.proofs.KeyLemmas.{KeySoFar, so_far}
use Rattle.schema_text.proofs.keys.makes_key.Given as goal

abbrev pub invariant-loop-i : goal.invariant-loop-i
invariant-loop-i l = KeySoFar l.format l.clustered (so_far l.columns l.line l.from l.i) l.total
