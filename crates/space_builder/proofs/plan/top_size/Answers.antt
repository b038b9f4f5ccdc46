use Rattle.space_builder.proofs.building.PlanSteps.{small_above}
use Rattle.space_builder.proofs.plan.top_size.Goals as goal

pub pages_above-requires-clause-small : goal.pages_above-requires-clause-small
pages_above-requires-clause-small c = small_above c.args.levels.now c.requires.few c.requires.small
