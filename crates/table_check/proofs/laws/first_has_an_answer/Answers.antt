use Rattle.table_check.proofs.ValueAnswer.{first_answered}
use Rattle.table_check.proofs.laws.first_has_an_answer.Goals as goal

pub returns : goal.returns
returns c = first_answered
