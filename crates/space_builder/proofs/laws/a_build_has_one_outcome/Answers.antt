use Rattle.space_builder.proofs.Outcomes.{roots_once, outcome_once}
use Rattle.space_builder.proofs.laws.a_build_has_one_outcome.Goals as goal

pub returns-clause-roots : goal.returns-clause-roots
returns-clause-roots c = roots_once

pub returns-clause-outcome : goal.returns-clause-outcome
returns-clause-outcome c = outcome_once c.lines_are_unique.ensures.one_row
