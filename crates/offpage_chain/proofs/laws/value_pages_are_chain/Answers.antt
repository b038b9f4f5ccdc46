use Rattle.offpage_chain.proofs.ValueChains.{leads_along}
use Rattle.offpage_chain.proofs.laws.value_pages_are_chain.Goals as goal

pub returns : goal.returns
returns c file space numbers bytes reference has to = leads_along file space numbers bytes has reference to
