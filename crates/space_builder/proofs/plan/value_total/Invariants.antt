use Rattle.std.proofs.Common.{◌≡◌, ◌-◌, ◌^◌, min, take}
use Rattle.space_builder.specs.calls.Plan.{stored_total}
use Rattle.space_builder.proofs.plan.value_total.Given as goal

-- those of the rows so far
abbrev pub invariant-loop-r : goal.invariant-loop-r
invariant-loop-r l = l.total ≡ min (stored_total l.format (take l.r l.rows)) (2 ^ 64 - 1)
