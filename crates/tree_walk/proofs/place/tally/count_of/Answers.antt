use Rattle.std.proofs.Common.{arith}
use Rattle.tree_walk.proofs.Records.{passed_origin}
use Rattle.tree_walk.proofs.Tallies.{counted_none, none_marked, next_heap, counted_more, marked_more}
use Rattle.tree_walk.proofs.place.tally.count_of.Goals as goal

pub loop-k-init : goal.loop-k-init
loop-k-init c = record {
  counted = counted_none c.args.page.now c.args.fields.now c.take_any_bytes.result;
  unmarked = λ t. none_marked c.args.page.now;
}

pub next_origin-at-requires : goal.next_origin-at-requires
next_origin-at-requires c =
    passed_origin c.args.page.now c.args.fields.now c.loop-k.k c.loop-k.at c.requires.facts
    (omega (arith, c.loop-k-test.true)) c.loop-k.invariant.counted.passed

pub one_more-tally-requires-clause-origin : goal.one_more-tally-requires-clause-origin
one_more-tally-requires-clause-origin c =
    next_heap c.args.page.now c.args.fields.now c.requires.facts c.loop-k.k c.loop-k.at c.loop-k.tally.live
    c.loop-k.tally.deleted c.loop-k.tally.whole (omega (arith, c.loop-k-test.true)) c.loop-k.invariant.counted
    c.next_origin-at.result c.next_origin-at.ensures.value

pub none_marked-unmarked-requires : goal.none_marked-unmarked-requires
none_marked-unmarked-requires c =
    next_heap c.args.page.now c.args.fields.now c.requires.facts c.loop-k.k c.loop-k.at c.loop-k.tally.live
    c.loop-k.tally.deleted c.loop-k.tally.whole (omega (arith, c.loop-k-test.true)) c.loop-k.invariant.counted
    c.next_origin-at.result c.next_origin-at.ensures.value

pub loop-k-preserved : goal.loop-k-preserved
loop-k-preserved c = record {
  counted =
      counted_more c.args.page.now c.args.fields.now c.requires.facts c.loop-k.k c.loop-k.at c.loop-k.tally.live
      c.loop-k.tally.deleted c.loop-k.tally.whole (omega (arith, c.loop-k-test.true)) c.loop-k.invariant.counted
      c.next_origin-at.result _ _ _ c.next_origin-at.ensures.value
      c.one_more-tally.ensures.live c.one_more-tally.ensures.deleted c.one_more-tally.ensures.whole;
  unmarked =
      marked_more c.args.page.now c.args.fields.now c.requires.facts c.loop-k.k c.loop-k.at c.loop-k.tally.live
      c.loop-k.tally.deleted c.loop-k.tally.whole (omega (arith, c.loop-k-test.true)) c.loop-k.invariant.counted
      c.next_origin-at.result c.loop-k.unmarked _ c.next_origin-at.ensures.value c.loop-k.invariant.unmarked
      c.none_marked-unmarked.ensures;
}
