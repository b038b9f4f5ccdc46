use Rattle.image_carve.proofs.Versions.{one_map}
use Rattle.image_carve.proofs.laws.carved_map_is_one.Goals as goal

pub returns : goal.returns
returns c = one_map
