use Rattle.std.proofs.Common.{◌≡◌, ℕ, ◌<◌}
use Rattle.column_values.specs.Utf8Blocks.{FollowsAt}
use Rattle.column_values.proofs.utf8_blocks.is_good_behind.Given as goal

abbrev pub invariant-loop-i : goal.invariant-loop-i
invariant-loop-i l = l.found ≡ 0 → (k : ℕ) → k < l.i → FollowsAt l.block k
