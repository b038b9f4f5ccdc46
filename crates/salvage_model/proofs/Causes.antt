-- Counts of faults, added up.
use Rattle.std.proofs.Common.{ℕ, ◌+◌, ◌≤◌, arith}
use Rattle.page_source.specs.Faults.{Rose}
use Rattle.salvage_model.specs.Causes.{RoseBy}

-- a count that didn't fall has a cause for nothing
pub rose_by_none : (f g : ℕ) → f ≤ g → RoseBy f g 0
rose_by_none f g later = omega (arith, later)

-- a call that failed has one for a page
pub rose_by_one : (f g : ℕ) → Rose f g → RoseBy f g 1
rose_by_one f g rose = omega (arith, rose)

-- the causes of two calls, one after the other
pub rose_by_then : (f g h a b : ℕ) → RoseBy f g a → RoseBy g h b → RoseBy f h (a + b)
rose_by_then f g h a b first second = omega (arith, first, second)
