use Rattle.std.proofs.Common.{◌≡◌, ◌≤◌, All, take}
use Rattle.space_builder.proofs.plan.fitting_levels.Given as goal

-- the levels so far
abbrev pub invariant-loop-count : goal.invariant-loop-count
invariant-loop-count l = record {
  same : l.levels.items ≡ take l.count-index l.counts;
  few : All (λ n. n ≤ 16416) l.levels.items;
}
