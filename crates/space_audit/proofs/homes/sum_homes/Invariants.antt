use Rattle.std.proofs.Common.{◌≡◌, ℕ, ◌*◌, ◌≤◌, ◌<◌, length, get_or}
use Rattle.space_audit.proofs.ReadExtents.{Summed}
use Rattle.space_audit.proofs.homes.sum_homes.Given as goal

abbrev pub invariant-loop-e : goal.invariant-loop-e
invariant-loop-e l = record {
  room : length l.sums.items ≡ l.lists;
  small : (home : ℕ) → get_or l.sums.items home 0 ≤ 64 * l.e;
  summed : Summed l.homes l.uses l.sums.items l.lists l.e;
}
