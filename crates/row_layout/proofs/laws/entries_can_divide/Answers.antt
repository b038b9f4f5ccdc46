use Rattle.row_layout.proofs.Divides.{divide_law}
use Rattle.row_layout.proofs.laws.entries_can_divide.Goals as goal

pub returns : goal.returns
returns c =
    divide_law c.spellings_are_unique.ensures.spells c.pointers_are_small.ensures c.records_are_small.ensures
    c.alike_records_have_one_size.ensures c.lists_are_of_one_index.ensures c.sorting_rises.ensures
