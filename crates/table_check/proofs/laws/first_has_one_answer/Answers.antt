use Rattle.table_check.proofs.OneAnswer.{first_unique}
use Rattle.table_check.proofs.laws.first_has_one_answer.Goals as goal

pub returns : goal.returns
returns c = first_unique
