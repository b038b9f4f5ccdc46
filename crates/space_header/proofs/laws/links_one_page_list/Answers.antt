use Rattle.std.proofs.Common.{◌<◌}
use Rattle.space_header.specs.Header.{node_address}
use Rattle.space_header.proofs.Chains.{linked_one, pages_addressing}
use Rattle.space_header.proofs.laws.links_one_page_list.Goals as goal

pub returns : goal.returns
returns c = λ base node at count xs ys few h k.
    linked_one base node (node_address at) (λ n. n < count) (pages_addressing at count few) xs ys h k
