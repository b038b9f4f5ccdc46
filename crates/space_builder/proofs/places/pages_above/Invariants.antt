use Rattle.std.proofs.Common.{◌≡◌, ◌+◌, ◌-◌}
use Rattle.tree_layout.specs.Places.{pages_above}
use Rattle.space_builder.proofs.places.pages_above.Given as goal

abbrev pub invariant-loop-i : goal.invariant-loop-i
invariant-loop-i l = l.sum + pages_above l.counts (l.i - 1) ≡ pages_above l.counts l.l
