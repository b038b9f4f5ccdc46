-- A list of checks, told check by check.
use Rattle.std.specs.Prelude.{◌⊎◌}
use Rattle.std.proofs.Common.{inr}

-- the first check holds, and so the fault is one of the rest
pub passed : {A B C : Type 0} → B → C → A ⊎ (B × C)
passed holds later = inr (holds, later)
