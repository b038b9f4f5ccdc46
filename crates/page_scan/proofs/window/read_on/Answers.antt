use Rattle.std.proofs.Common.{arith}
use Rattle.page_scan.proofs.Reading.{rest_more, room_more}
use Rattle.page_scan.proofs.window.read_on.Goals as goal

pub loop-came-preserved : goal.loop-came-preserved
loop-came-preserved g c =
    let left = g.Q.ByteSource.left in
    record {
      within = room_more c.loop-came.window c.read.new.buffer _ c.loop-came.came c.in_ok-count.count
          c.loop-came.invariant.within c.in_ok-count.ensures.bound;
      rest = rest_more _ (left c.loop-came.source) (left c.read.new.self) c.loop-came.window c.read.new.buffer _
          c.loop-came.came c.in_ok-count.count c.loop-came.invariant.within c.in_ok-count.ensures.bound
          c.in_ok-count.ensures.bytes c.loop-came.invariant.rest;
      later = omega (arith, c.loop-came.invariant.later, c.read.ensures.cause.later);
    }
