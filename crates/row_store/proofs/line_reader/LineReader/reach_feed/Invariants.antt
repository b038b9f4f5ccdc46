use Rattle.std.proofs.Common.{◌-◌, ◌≤◌, length}
use Rattle.row_store.specs.calls.Lines.{IsFeedPlace, IsFewAhead, GrewBehind}
use Rattle.row_store.proofs.line_reader.LineReader.reach_feed.Given as goal

abbrev pub invariant-loop-size : goal.invariant-loop-size
invariant-loop-size g l =
    let left = g.R.ByteSource.left in
    let faults = g.R.ByteSource.faults in
    record {
      place : IsFeedPlace l.self l.size;
      few : IsFewAhead l.self l.size;
      grew : GrewBehind (left l.fn.text) (left l.text) l.fn.self l.self;
      later : faults l.fn.text ≤ faults l.text;
    }

abbrev pub decreases-loop-size : goal.decreases-loop-size
decreases-loop-size g l = 16777217 - length l.self
