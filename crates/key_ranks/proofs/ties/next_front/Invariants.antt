use Rattle.std.proofs.Common.{◌<◌, ◌^◌}
use Rattle.key_ranks.proofs.ties.next_front.Given as goal

-- the number of the bytes so far has room
abbrev pub invariant-loop-i : goal.invariant-loop-i
invariant-loop-i l = l.number < 2 ^ 40
