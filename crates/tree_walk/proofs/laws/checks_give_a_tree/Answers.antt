use Rattle.tree_walk.proofs.DescentLaw.{descent_law}
use Rattle.tree_walk.proofs.laws.checks_give_a_tree.Goals as goal

pub returns : goal.returns
returns c = descent_law c.checks_are_an_index_page.ensures c.page_has_one_chain.ensures.chain
