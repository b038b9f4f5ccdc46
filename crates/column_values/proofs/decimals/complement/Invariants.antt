use Rattle.std.proofs.Common.{◌≡◌, ◌-◌, ◌++◌, map, take, drop}
use Rattle.column_values.proofs.decimals.complement.Given as goal

abbrev pub invariant-loop-byte : goal.invariant-loop-byte
invariant-loop-byte l = l.bytes ≡ map (λ b. 255 - b) (take l.byte-index l.fn.bytes) ++ drop l.byte-index l.fn.bytes
