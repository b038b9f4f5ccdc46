use Rattle.std.proofs.Common.{arith}
use Rattle.key_ranks.proofs.RankSteps.{ranks_more, fronts_more}
use Rattle.key_ranks.proofs.ranks.ranks_of.Goals as goal

pub loop-row-preserved : goal.loop-row-preserved
loop-row-preserved g c = record {
  rows = ranks_more c.loop-row.ranks.items c.push.new.self.items c.in-Some.front c.loop-row.row
      (omega (arith, c.requires.few, c.loop-row-test.true)) c.loop-row.invariant.rows c.in_ok-push.ensures.items;
  fronts = fronts_more (g.K.RowKeys.table c.args.keys.now) c.args.filler c.args.digits.now c.loop-row.ranks.items
      c.push.new.self.items c.in-Some.front c.loop-row.row _ (omega (arith, c.requires.few, c.loop-row-test.true))
      c.first-first.ensures.value c.first-first.ensures.whole c.in-Some.ensures.front c.in_ok-push.ensures.items
      c.loop-row.invariant.fronts;
}
