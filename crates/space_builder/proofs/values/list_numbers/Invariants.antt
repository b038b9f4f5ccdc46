use Rattle.std.proofs.Common.{◌≡◌, ◌+◌, map}
use Rattle.std.specs.List.{range_with_len}
use Rattle.space_layout.specs.Numbers.{segment_page}
use Rattle.space_builder.proofs.values.list_numbers.Given as goal

abbrev pub invariant-loop-k : goal.invariant-loop-k
invariant-loop-k l = l.numbers.items ≡ map (λ k. segment_page l.sizes 1 (l.at + k)) (range_with_len 0 l.k)
