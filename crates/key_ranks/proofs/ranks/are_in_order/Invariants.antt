use Rattle.std.specs.List.Sorted.{IsSortedWithin}
use Rattle.std.specs.Ordering.{is_lt}
use Rattle.column_values.specs.Order.{key_cmp}
use Rattle.key_ranks.specs.Ranks.{key_of_rank}
use Rattle.key_ranks.proofs.ranks.are_in_order.Given as goal

-- the keys so far don't fall
abbrev pub invariant-loop-i : goal.invariant-loop-i
invariant-loop-i g l =
    let table = g.K.RowKeys.table l.keys in
    IsSortedWithin (λ a b. is_lt (key_cmp table.kinds (key_of_rank table a) (key_of_rank table b))) l.ranks 0 l.i
