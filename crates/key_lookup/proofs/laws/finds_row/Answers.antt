use Rattle.key_lookup.proofs.RowOfKey.{finds_row}
use Rattle.key_lookup.proofs.laws.finds_row.Goals as goal

pub returns : goal.returns
returns c = λ index key one tree row. finds_row c.keys_rise_throughout.ensures index one tree key row
