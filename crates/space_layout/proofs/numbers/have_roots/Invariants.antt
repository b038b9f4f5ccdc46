use Rattle.std.proofs.Common.{◌≡◌, ℕ, ◌<◌, ◌≤◌, ◌%◌, get_or}
use Rattle.space_layout.proofs.numbers.have_roots.Given as goal

abbrev pub invariant-loop-s : goal.invariant-loop-s
invariant-loop-s l = (k : ℕ) → k < l.s → k % 2 ≡ 0 → 1 ≤ get_or l.sizes k 0
