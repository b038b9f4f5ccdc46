use Rattle.space_layout.proofs.PageNumbers.{are_numbers}
use Rattle.space_layout.proofs.laws.numbers_differ.Goals as goal

pub returns : goal.returns
returns c = are_numbers
