use Rattle.std.proofs.Common.{◌≡◌, ◌*◌, ◌≤◌}
use Rattle.space_layout.specs.Numbers.{extents_before}
use Rattle.space_layout.proofs.numbers.extents_before.Given as goal

abbrev pub invariant-loop-i : goal.invariant-loop-i
invariant-loop-i l = (l.sum ≡ extents_before l.sizes l.i) × (l.sum ≤ 67108864 * l.i)
