use Rattle.schema_text.proofs.GoodTexts.{text_passes}
use Rattle.schema_text.proofs.OneAnswer.{text_unique}
use Rattle.schema_text.proofs.laws.texts_pass.Goals as goal

pub returns-clause-pass : goal.returns-clause-pass
returns-clause-pass c = text_passes

pub returns-clause-one_answer : goal.returns-clause-one_answer
returns-clause-one_answer c = text_unique
