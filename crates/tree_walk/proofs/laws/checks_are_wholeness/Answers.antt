use Rattle.tree_walk.proofs.ChecksLaw.{checks_law}
use Rattle.tree_walk.proofs.laws.checks_are_wholeness.Goals as goal

pub returns : goal.returns
returns c = checks_law c.checks_are_an_index_page.ensures c.page_has_one_chain.ensures.chain
