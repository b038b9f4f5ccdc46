use Rattle.schema_text.proofs.SomeAnswer.{text_answered}
use Rattle.schema_text.proofs.laws.texts_have_an_answer.Goals as goal

pub returns : goal.returns
returns c = text_answered
