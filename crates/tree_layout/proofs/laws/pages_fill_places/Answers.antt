use Rattle.tree_layout.proofs.Filled.{places_law}
use Rattle.tree_layout.proofs.laws.pages_fill_places.Goals as goal

pub returns : goal.returns
returns c = places_law
