use Rattle.std.proofs.Common.{◌*◌, ◌+◌, ◌%◌, ◌^◌, slice_index, arith}
use Rattle.std.proofs.lemmas.List.{get_or_default}
use Rattle.std.proofs.lemmas.List.Edits.{map_over_more}
use Rattle.key_ranks.proofs.ties.put_front.Goals as goal

pub loop-rank-preserved : goal.loop-rank-preserved
loop-rank-preserved c =
    let x = slice_index c.loop-rank.ranks c.loop-rank.rank-index in
    rw c.row_of.ensures
    (map_over_more (λ rank. c.args.front * 2 ^ 24 + rank % 2 ^ 24) c.args.ranks.now c.loop-rank.ranks
    c.loop-rank.rank-index x (omega arith) c.loop-rank.invariant
    (get_or_default c.loop-rank.ranks c.loop-rank.rank-index 0 x (omega (arith, c.loop-rank.auto))))
