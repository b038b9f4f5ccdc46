use Rattle.std.proofs.Common.{◌≡◌}
use Rattle.space_layout.specs.calls.Written.{with_inodes}
use Rattle.space_layout.proofs.heads.put_inodes.Given as goal

abbrev pub invariant-loop-s : goal.invariant-loop-s
invariant-loop-s l = l.page ≡ with_inodes l.fn.page l.sizes l.s
