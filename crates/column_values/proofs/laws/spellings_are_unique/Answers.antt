use Rattle.column_values.proofs.Spellings.{one_spelling, one_value, spelling_spells}
use Rattle.column_values.proofs.laws.spellings_are_unique.Goals as goal

pub returns : goal.returns
returns c = record { one_spelling = one_spelling; one_value = one_value; spells = spelling_spells }
