use Rattle.std.proofs.Common.{◌∙◌, sym}
use Rattle.schema_text.proofs.laws.has_one_text.Goals as goal

pub returns : goal.returns
returns c = λ table a b x y. x.text_is ∙ sym y.text_is
