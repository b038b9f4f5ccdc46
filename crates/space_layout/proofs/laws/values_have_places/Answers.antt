use Rattle.space_layout.proofs.Parts.{have_places}
use Rattle.space_layout.proofs.laws.values_have_places.Goals as goal

pub returns : goal.returns
returns c = have_places
