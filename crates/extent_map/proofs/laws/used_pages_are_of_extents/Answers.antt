use Rattle.extent_map.proofs.Used.{are_used_pages}
use Rattle.extent_map.proofs.laws.used_pages_are_of_extents.Goals as goal

pub returns : goal.returns
returns c = are_used_pages
