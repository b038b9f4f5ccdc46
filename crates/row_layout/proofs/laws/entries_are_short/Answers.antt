use Rattle.row_layout.proofs.Secondary.{entries_short}
use Rattle.row_layout.proofs.laws.entries_are_short.Goals as goal

pub returns : goal.returns
returns c =
    entries_short c.spellings_are_unique.ensures.spells c.pointers_are_small.ensures c.records_are_small.ensures
    c.lists_are_of_one_index.ensures
