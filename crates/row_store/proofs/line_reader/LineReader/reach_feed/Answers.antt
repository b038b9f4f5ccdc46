use Rattle.std.proofs.Common.{length, arith, ap, ◌∙◌}
use Rattle.row_store.proofs.Ahead.{grew_more, place_on, few_more}
use Rattle.row_store.proofs.line_reader.LineReader.reach_feed.Goals as goal

pub loop-size-preserved : goal.loop-size-preserved
loop-size-preserved g c =
    let left = g.R.ByteSource.left in
    let come = c.in_ok-read_on.ensures.come in
    let found = c.feed_from-size-in-loop-size.ensures in
    record {
      place = place_on (left c.loop-size.text) (left c.read_on.new.text) c.loop-size.self c.read_on.new.self _ _
          c.loop-size.size _ c.loop-size.invariant.place (c.loop-size-test.true ∙ ap length
          c.ahead-in-loop-size.ensures)
          come c.ahead-in-loop-size-2.ensures found.within found.lacks found.feed;
      few = few_more (left c.loop-size.text) (left c.read_on.new.text) c.loop-size.self c.read_on.new.self _
          c.loop-size.size _ (c.loop-size-test.true ∙ ap length c.ahead-in-loop-size.ensures) (omega arith) come
          found.least;
      grew = grew_more (left c.args.text.now) (left c.loop-size.text) (left c.read_on.new.text) c.args.self.now
          c.loop-size.self c.read_on.new.self _ c.loop-size.invariant.grew come;
      later = omega (arith, c.loop-size.invariant.later, c.read_on.ensures.cause.later);
    }
