use Rattle.std.proofs.Common.{◌≡◌, ◌*◌, ◌≤◌}
use Rattle.space_layout.specs.Numbers.{fragments_before}
use Rattle.space_layout.proofs.numbers.fragments_before.Given as goal

abbrev pub invariant-loop-i : goal.invariant-loop-i
invariant-loop-i l = (l.sum ≡ fragments_before l.sizes l.i) × (l.sum ≤ 32 * l.i)
