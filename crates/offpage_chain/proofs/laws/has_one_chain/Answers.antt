use Rattle.offpage_chain.proofs.Whole.{has_one_chain}
use Rattle.offpage_chain.proofs.laws.has_one_chain.Goals as goal

pub returns : goal.returns
returns c = has_one_chain
