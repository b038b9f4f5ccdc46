use Rattle.space_builder.proofs.building.PlanSteps.{ArePlanned}
use Rattle.space_builder.proofs.plan.plan_space.Given as goal

-- the indexes so far
abbrev pub invariant-loop-index : goal.invariant-loop-index
invariant-loop-index l = ArePlanned l.schema l.rows l.index l.indexes.items l.sizes.items
