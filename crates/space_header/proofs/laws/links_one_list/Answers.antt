use Rattle.std.proofs.Common.{◌<◌, length}
use Rattle.space_header.specs.Header.{extent_address}
use Rattle.space_header.specs.Linked.{node_in}
use Rattle.space_header.proofs.Chains.{linked_one, extents_addressing}
use Rattle.space_header.proofs.laws.links_one_list.Goals as goal

pub returns : goal.returns
returns c = λ base nodes xs ys few h k. linked_one base (node_in nodes) extent_address (λ e. e < length nodes)
    (extents_addressing (length nodes) few) xs ys h k
