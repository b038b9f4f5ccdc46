use Rattle.std.proofs.Common.{◌≡◌, ◌%◌, ◌^◌, map}
use Rattle.std.specs.List.{range_with_len}
use Rattle.key_ranks.specs.Ranks.{HaveFronts}
use Rattle.key_ranks.proofs.ranks.ranks_of.Given as goal

-- the rows so far have ranks
abbrev pub invariant-loop-row : goal.invariant-loop-row
invariant-loop-row g l = record {
  rows : map (λ rank. rank % 2 ^ 24) l.ranks.items ≡ range_with_len 0 l.row;
  fronts : HaveFronts (g.K.RowKeys.table l.keys) l.filler l.digits l.ranks.items;
}
