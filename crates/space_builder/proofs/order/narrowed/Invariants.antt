use Rattle.std.proofs.Common.{◌≡◌, take}
use Rattle.space_builder.proofs.order.narrowed.Given as goal

-- the numbers so far
abbrev pub invariant-loop-k : goal.invariant-loop-k
invariant-loop-k l = l.numbers.items ≡ take l.k l.list
