use Rattle.std.proofs.Common.{◌≡◌, ◌%◌, ◌*◌, ◌+◌, ◌^◌, ◌++◌, map, take, drop}
use Rattle.key_ranks.proofs.ties.put_front.Given as goal

-- the ranks so far have the front
abbrev pub invariant-loop-rank : goal.invariant-loop-rank
invariant-loop-rank l =
    l.ranks ≡ map (λ rank. l.fn.front * 2 ^ 24 + rank % 2 ^ 24) (take l.rank-index l.fn.ranks)
    ++ drop l.rank-index l.fn.ranks
