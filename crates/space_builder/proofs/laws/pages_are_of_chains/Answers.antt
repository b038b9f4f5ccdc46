use Rattle.space_builder.proofs.layout.Chains.{chain_pages_law}
use Rattle.space_builder.proofs.laws.pages_are_of_chains.Goals as goal

pub returns : goal.returns
returns c = chain_pages_law
