use Rattle.tree_layout.proofs.Alike.{need_no_numbers}
use Rattle.tree_layout.proofs.laws.counts_need_no_numbers.Goals as goal

pub returns : goal.returns
returns c = need_no_numbers
