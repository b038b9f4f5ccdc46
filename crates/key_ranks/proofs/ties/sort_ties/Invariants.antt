use Rattle.std.proofs.Common.{◌≡◌, ℕ, ◌<◌, ◌≤◌, ◌/◌, ◌^◌, IsPermutation, get_or, length}
use Rattle.key_ranks.proofs.ties.sort_ties.Given as goal

-- each rank is still there, and from the place where the front in hand began each one had it
abbrev pub invariant-loop-i : goal.invariant-loop-i
invariant-loop-i g l = record {
  begun : l.from < l.i;
  within : l.from ≤ length l.fn.ranks;
  front : (j : ℕ) → l.from ≤ j → j < l.i → get_or l.ranks j 0 / 2 ^ 24 ≡ get_or l.ranks l.from 0 / 2 ^ 24;
  places : IsPermutation l.fn.ranks l.ranks;
}
