use Rattle.std.proofs.Common.{arith}
use Rattle.std.proofs.lemmas.Map.Iter.{iter_turn}
use Rattle.image_listing.proofs.Counting.{Kept, tallies_more, tallies_have_room}
use Rattle.image_listing.proofs.lines.Lines.of.Goals as goal

pub count_page-requires : goal.count_page-requires
count_page-requires c =
    let gives = c.into_iter-key-iterator.ensures.into_iter_gives in
    let turn = iter_turn (λ (page : Kept). page) c.args.catalogue.pages.entries c.loop-key.yielded
    c.into_iter-key-iterator.result c.loop-key.key-iterator c.next.new.self c.next.result gives.0 c.loop-key.yielded_by
    (c.in-Some.key, c.in-Some.version) c.in-Some.is c.next.ensures.steps in
    tallies_have_room c.loop-key.yielded c.loop-key.lines.tallies c.loop-key.invariant.counted
    (omega (arith, turn.0, gives.1))

pub loop-key-preserved : goal.loop-key-preserved
loop-key-preserved c = record {
  counted = tallies_more c.loop-key.yielded (c.in-Some.key, c.in-Some.version) c.loop-key.lines.tallies
      c.count_page.new.self.tallies c.loop-key.invariant.counted c.in_ok-count_page.ensures.counts;
  rise = c.in_ok-count_page.ensures.rise;
}
