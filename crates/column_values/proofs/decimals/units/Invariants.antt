use Rattle.std.proofs.Common.{◌≡◌, ◌<◌, ◌^◌, take, drop, sum, sum_by}
use Rattle.column_values.specs.Lengths.{group_length, decimal_groups}
use Rattle.column_values.proofs.Groups.{ungrouped}
use Rattle.column_values.proofs.decimals.units.Given as goal

abbrev pub invariant-loop-group : goal.invariant-loop-group
invariant-loop-group l = record {
  low : l.units < 10 ^ sum (take l.group (decimal_groups l.p l.s));
  place : l.at ≡ sum_by group_length (take l.group (decimal_groups l.p l.s));
  same : ungrouped (drop l.group (decimal_groups l.p l.s)) l.units (drop l.at l.plain) ≡ ungrouped
      (decimal_groups l.p l.s) 0 l.plain;
}
