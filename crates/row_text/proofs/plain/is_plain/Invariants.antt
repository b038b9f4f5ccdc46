use Rattle.std.proofs.Common.{◌≡◌, ℕ, ◌<◌, get_or}
use Rattle.row_text.specs.Values.{escape_letter}
use Rattle.row_text.proofs.plain.is_plain.Given as goal

abbrev pub invariant-loop-i : goal.invariant-loop-i
invariant-loop-i l = l.found ≡ 0 → (k : ℕ) (d : ℕ) → k < l.i → escape_letter (get_or l.run k d) ≡ 0
