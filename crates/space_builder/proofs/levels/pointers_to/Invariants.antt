use Rattle.std.proofs.Common.{◌≡◌, map}
use Rattle.std.specs.List.{range_with_len}
use Rattle.space_builder.specs.calls.TreePlan.{pointer_in}
use Rattle.space_builder.proofs.levels.pointers_to.Given as goal

abbrev pub invariant-loop-k : goal.invariant-loop-k
invariant-loop-k l = l.pointers.items ≡ map (pointer_in l.tree l.level l.firsts) (range_with_len 0 l.k)
