use Rattle.std.proofs.Common.{◌∙◌, arith}
use Rattle.key_ranks.proofs.TieSteps.{row_kept}
use Rattle.key_ranks.proofs.ties.put_next_fronts.Goals as goal

pub loop-rank-preserved : goal.loop-rank-preserved
loop-rank-preserved g c =
    row_kept c.loop-rank.ranks c.loop-rank.rank-index _ (λ less. omega (arith, c.row_of-row.ensures))
    ∙ c.loop-rank.invariant
