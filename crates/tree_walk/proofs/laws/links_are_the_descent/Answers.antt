use Rattle.tree_walk.proofs.LinksLaw.{links_law}
use Rattle.tree_walk.proofs.laws.links_are_the_descent.Goals as goal

pub returns : goal.returns
returns c = links_law
