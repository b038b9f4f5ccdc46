use Rattle.space_layout.proofs.Maps.{numbered_found}
use Rattle.space_layout.proofs.laws.numbered_pages_are_found.Goals as goal

pub returns : goal.returns
returns c = numbered_found
