use Rattle.std.proofs.Common.{arith}
use Rattle.command_line.proofs.TextPieces.{came_more_told, came_all_told, room_after}
use Rattle.command_line.proofs.schema_file.read_up_to.Goals as goal

pub returns-then-count-eq0-clause-came : goal.returns-then-count-eq0-clause-came
returns-then-count-eq0-clause-came g c =
    let left = g.Q.ByteSource.left in
    came_all_told (left c.args.source.now) (left c.loop-came.source) (left c.read.new.self) c.loop-came.came
    c.in_ok-count.count c.loop-came.buffer c.read.new.buffer _
    c.if-count-eq0.true c.loop-came.invariant.within c.in_ok-count.ensures.bound c.in_ok-count.ensures.bytes
    c.loop-came.invariant.came

pub loop-came-preserved : goal.loop-came-preserved
loop-came-preserved g c =
    let left = g.Q.ByteSource.left in
    record {
      within = room_after c.loop-came.came c.in_ok-count.count c.loop-came.buffer c.read.new.buffer _
          c.loop-came.invariant.within c.in_ok-count.ensures.bound;
      came = came_more_told (left c.args.source.now) (left c.loop-came.source) (left c.read.new.self)
          c.loop-came.came c.in_ok-count.count c.loop-came.buffer c.read.new.buffer _
          c.loop-came.invariant.within c.in_ok-count.ensures.bound c.in_ok-count.ensures.bytes
          c.loop-came.invariant.came;
      later = omega (arith, c.loop-came.invariant.later, c.read.ensures.cause.later);
    }
