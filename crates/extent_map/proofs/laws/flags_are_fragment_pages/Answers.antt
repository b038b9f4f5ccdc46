use Rattle.extent_map.proofs.Used.{flag_is}
use Rattle.extent_map.proofs.laws.flags_are_fragment_pages.Goals as goal

pub returns : goal.returns
returns c = flag_is
