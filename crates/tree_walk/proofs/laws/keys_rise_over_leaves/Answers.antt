use Rattle.tree_walk.proofs.KeysLaw.{keys_law}
use Rattle.tree_walk.proofs.laws.keys_rise_over_leaves.Goals as goal

pub returns : goal.returns
returns c = keys_law
