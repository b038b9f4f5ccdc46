use Rattle.std.proofs.Common.{◌≡◌, ◌<◌, ◌^◌, ◌++◌, drop, sum}
use Rattle.column_values.specs.Lengths.{decimal_groups}
use Rattle.column_values.specs.Decimals.{grouped}
use Rattle.column_values.proofs.decimals.plain_bytes.Given as goal

abbrev pub invariant-loop-group : goal.invariant-loop-group
invariant-loop-group l = record {
  left : l.left ≡ sum (drop l.group (decimal_groups l.p l.s));
  low : l.rest < 10 ^ l.left;
  same : l.list ++ grouped (drop l.group (decimal_groups l.p l.s)) l.rest ≡ grouped (decimal_groups l.p l.s) l.units;
}
