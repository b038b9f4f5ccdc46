use Rattle.std.proofs.Common.{◌≡◌, ◌%◌, ◌^◌, map}
use Rattle.key_ranks.proofs.ties.put_next_fronts.Given as goal

-- the rows stay as they were
abbrev pub invariant-loop-rank : goal.invariant-loop-rank
invariant-loop-rank g l = map (λ rank. rank % 2 ^ 24) l.ranks ≡ map (λ rank. rank % 2 ^ 24) l.fn.ranks
