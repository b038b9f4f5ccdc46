use Rattle.std.proofs.Common.{◌≡◌, ℕ, ◌<◌, slice_index_or}
use Rattle.key_ranks.proofs.fronts.common.Given as goal

-- the bytes so far are the same
abbrev pub invariant-loop-i : goal.invariant-loop-i
invariant-loop-i l = (j d : ℕ) → j < l.i → slice_index_or l.b j d ≡ slice_index_or l.a j d
