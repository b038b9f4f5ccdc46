use Rattle.std.proofs.Common.{◌≡◌, ◌+◌}
use Rattle.space_layout.specs.Numbers.{extent_start}
use Rattle.space_layout.specs.calls.Written.{with_descriptors}
use Rattle.space_layout.proofs.heads.put_descriptors.Given as goal

abbrev pub invariant-loop-e : goal.invariant-loop-e
invariant-loop-e l = l.page ≡ with_descriptors l.fn.page l.sizes l.e

abbrev pub invariant-loop-s : goal.invariant-loop-s
invariant-loop-s l = l.page ≡ with_descriptors l.fn.page l.sizes (extent_start l.sizes l.s)

abbrev pub invariant-loop-k : goal.invariant-loop-k
invariant-loop-k l = l.page ≡ with_descriptors l.fn.page l.sizes (extent_start l.sizes l.s + l.k)
