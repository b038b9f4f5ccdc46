use Rattle.std.proofs.Common.{◌≡◌, map, take}
use Rattle.space_builder.specs.calls.Pointing.{pointer_at}
use Rattle.space_builder.proofs.levels.firsts_of.Given as goal

abbrev pub invariant-loop-k : goal.invariant-loop-k
invariant-loop-k l = l.firsts.items ≡ map (λ s. (pointer_at l.pointers s).first) (take l.k l.starts)
