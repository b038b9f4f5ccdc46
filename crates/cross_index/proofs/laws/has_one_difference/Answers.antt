use Rattle.cross_index.proofs.Differences.{has_one_difference}
use Rattle.cross_index.proofs.laws.has_one_difference.Goals as goal

pub returns : goal.returns
returns c =
    has_one_difference (record {
      rise = c.live_rows_rise.ensures;
      read = c.rows_can_be_read.ensures;
      walked = c.trees_are_walked.ensures;
    })
