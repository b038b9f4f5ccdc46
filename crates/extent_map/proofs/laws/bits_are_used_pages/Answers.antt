use Rattle.extent_map.proofs.Uses.{bits_are_used}
use Rattle.extent_map.proofs.laws.bits_are_used_pages.Goals as goal

pub returns : goal.returns
returns c = bits_are_used
