use Rattle.std.proofs.Common.{◌≡◌, ℕ, ◌<◌, slice_index}
use Rattle.space_audit.proofs.lists.holds_home.Given as goal

abbrev pub invariant-loop-extent : goal.invariant-loop-extent
invariant-loop-extent l = (k : ℕ) → k < l.extent-index → slice_index l.numbers (slice_index l.list k) ≡ l.home
