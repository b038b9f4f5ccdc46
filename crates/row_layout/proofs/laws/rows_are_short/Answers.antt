use Rattle.row_layout.proofs.Short.{rows_short}
use Rattle.row_layout.proofs.laws.rows_are_short.Goals as goal

pub returns : goal.returns
returns c =
    rows_short c.spellings_are_unique.ensures.spells c.pointers_are_small.ensures
    c.alike_records_have_one_size.ensures c.lists_are_of_one_index.ensures
