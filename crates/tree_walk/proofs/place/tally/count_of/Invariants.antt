use Rattle.std.proofs.Common.{◌≡◌, true, take}
use Rattle.index_page.specs.Header.{records_of}
use Rattle.tree_walk.specs.Walk.{AreUnmarked}
use Rattle.tree_walk.proofs.Tallies.{HasCounted}
use Rattle.tree_walk.proofs.place.tally.count_of.Given as goal

abbrev pub invariant-loop-k : goal.invariant-loop-k
invariant-loop-k l = record {
  counted : HasCounted l.page l.fields l.k l.at l.tally.live l.tally.deleted l.tally.whole;
  unmarked : l.unmarked ≡ true → AreUnmarked l.page (take l.k (records_of l.page));
}
