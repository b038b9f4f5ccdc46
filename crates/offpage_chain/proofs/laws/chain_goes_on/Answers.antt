use Rattle.offpage_chain.proofs.Whole.{chain_goes_on}
use Rattle.offpage_chain.proofs.laws.chain_goes_on.Goals as goal

pub returns : goal.returns
returns c = chain_goes_on
