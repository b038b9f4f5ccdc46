use Rattle.key_lookup.proofs.OneAnswer.{get_first_unique}
use Rattle.key_lookup.proofs.laws.look_up_has_one_answer.Goals as goal

pub returns : goal.returns
returns c = get_first_unique
