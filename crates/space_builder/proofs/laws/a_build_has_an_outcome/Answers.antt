use Rattle.space_builder.proofs.SomeOutcome.{has_outcome}
use Rattle.space_builder.proofs.laws.a_build_has_an_outcome.Goals as goal

pub returns : goal.returns
returns c = has_outcome c.spellings_are_unique.ensures.one_value c.values_fit.ensures c.lines_are_unique.ensures.one_row
