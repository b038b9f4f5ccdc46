use Rattle.offpage_chain.proofs.HeldParts.{held_parts}
use Rattle.offpage_chain.proofs.laws.held_parts_are_pages.Goals as goal

pub returns : goal.returns
returns c = held_parts
