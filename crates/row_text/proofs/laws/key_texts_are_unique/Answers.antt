use Rattle.row_text.proofs.OneLine.{has_one_key, has_one_key_text}
use Rattle.row_text.proofs.laws.key_texts_are_unique.Goals as goal

pub returns-clause-one_text : goal.returns-clause-one_text
returns-clause-one_text c = has_one_key_text

pub returns-clause-one_key : goal.returns-clause-one_key
returns-clause-one_key c = has_one_key
