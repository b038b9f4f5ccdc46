use Rattle.std.proofs.Common.{◌<◌, ◌≤◌, IsPermutation, length}
use Rattle.key_ranks.proofs.ties.sort_runs.Given as goal

-- each rank is still there, and the front in hand began before this place
abbrev pub invariant-loop-i : goal.invariant-loop-i
invariant-loop-i g l =
    (l.from < l.i) × (l.from ≤ length l.fn.ranks) × IsPermutation l.fn.ranks l.ranks
