use Rattle.std.proofs.Common.{◌≡◌, ℕ, ◌<◌, false}
use Rattle.row_layout.specs.StoredRow.{stored_at}
use Rattle.row_layout.specs.HoldsValues.{stored_in}
use Rattle.space_builder.proofs.values.goes_off.Given as goal

-- the fields so far stay on the page
abbrev pub invariant-loop-i : goal.invariant-loop-i
invariant-loop-i l = (i : ℕ) → i < l.i → (stored_at (stored_in l.stored l.r) i).off ≡ false
