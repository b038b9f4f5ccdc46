use Rattle.extent_map.proofs.Writing.{extent_back}
use Rattle.extent_map.proofs.laws.written_extents_are_read.Goals as goal

pub returns : goal.returns
returns c = extent_back c.written_fields_are_read.ensures
