use Rattle.std.proofs.Common.{◌≡◌, ℕ, ◌≤◌, ◌<◌, get_or, []}
use Rattle.schema_text.proofs.names.keys_differ.Given as goal

abbrev pub invariant-loop-i : goal.invariant-loop-i
invariant-loop-i l = (j k : ℕ) → l.from ≤ j → j < k → k < l.i → get_or l.line j [] ≡ get_or l.line k [] → ⊥
