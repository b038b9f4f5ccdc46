use Rattle.std.proofs.Common.{◌≡◌}
use Rattle.extent_map.specs.Extents.{is_bit_clear}
use Rattle.extent_map.proofs.Masks.{power_sum}
use Rattle.extent_map.proofs.extent.read_used.Given as goal

abbrev pub invariant-loop-j : goal.invariant-loop-j
invariant-loop-j l = l.used ≡ power_sum (is_bit_clear l.fn.page l.at) l.j
