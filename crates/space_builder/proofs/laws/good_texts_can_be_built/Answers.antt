use Rattle.space_builder.proofs.building.Good.{good_texts}
use Rattle.space_builder.proofs.laws.good_texts_can_be_built.Goals as goal

pub returns : goal.returns
returns c = good_texts
