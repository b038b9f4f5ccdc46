use Rattle.std.proofs.Common.{◌≡◌, ◌%◌, ◌^◌, ◌++◌, map, take, drop}
use Rattle.key_ranks.proofs.ranks.strip.Given as goal

abbrev pub invariant-loop-rank : goal.invariant-loop-rank
invariant-loop-rank l =
    l.ranks ≡ map (λ rank. rank % 2 ^ 24) (take l.rank-index l.fn.ranks) ++ drop l.rank-index l.fn.ranks
