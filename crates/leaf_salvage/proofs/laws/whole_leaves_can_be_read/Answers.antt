use Rattle.leaf_salvage.specs.Leaf.{LeafChecks}
use Rattle.leaf_salvage.proofs.laws.whole_leaves_can_be_read.Goals as goal

pub returns : goal.returns
unfolding LeafChecks
returns c page fields h =
    record {
      header = h.0;
      is_chain = h.1.1.0;
      is_free = h.1.1.1.1.0.list;
      spelled = h.1.1.1.1.1.1.1.0;
      room = h.1.1.1.1.1.1.1.1.within;
    }
