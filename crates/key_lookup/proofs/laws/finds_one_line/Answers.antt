use Rattle.key_lookup.proofs.OneLine.{one_line}
use Rattle.key_lookup.proofs.laws.finds_one_line.Goals as goal

pub returns : goal.returns
returns c = one_line c.spellings_are_unique.ensures.one_value
