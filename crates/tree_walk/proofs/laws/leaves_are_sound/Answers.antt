use Rattle.tree_walk.proofs.LeafFacts.{leaf_facts}
use Rattle.tree_walk.proofs.laws.leaves_are_sound.Goals as goal

pub returns : goal.returns
returns c = leaf_facts
