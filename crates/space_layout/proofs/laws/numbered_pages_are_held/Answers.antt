use Rattle.space_layout.proofs.Maps.{numbered_held}
use Rattle.space_layout.proofs.laws.numbered_pages_are_held.Goals as goal

pub returns : goal.returns
returns c = numbered_held c.laws_below.ensures.page
