use Rattle.tree_layout.proofs.Numbers.{numbers_law}
use Rattle.tree_layout.proofs.laws.numbers_are_different.Goals as goal

pub returns : goal.returns
returns c = numbers_law
