use Rattle.space_builder.proofs.building.Texts.{texts_are_of_rows}
use Rattle.space_builder.proofs.laws.good_texts_are_of_rows.Goals as goal

pub returns : goal.returns
returns c = texts_are_of_rows
