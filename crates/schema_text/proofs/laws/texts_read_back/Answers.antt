use Rattle.schema_text.proofs.OneAnswer.{read_back}
use Rattle.schema_text.proofs.laws.texts_read_back.Goals as goal

pub returns : goal.returns
returns c = read_back
