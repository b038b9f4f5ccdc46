use Rattle.std.proofs.Common.{length, ◌-◌, ◌≤◌, IfSome}
use Rattle.command_line.specs.Reading.{Came}
use Rattle.command_line.proofs.schema_file.read_up_to.Given as goal

abbrev pub invariant-loop-came : goal.invariant-loop-came
invariant-loop-came g l =
    let left = g.Q.ByteSource.left in
    let faults = g.Q.ByteSource.faults in
    record {
      within : l.came ≤ length l.buffer;
      came : IfSome (left l.fn.source) (λ text. Came text (left l.source) l.came l.buffer);
      later : faults l.fn.source ≤ faults l.source;
    }

abbrev pub decreases-loop-came : goal.decreases-loop-came
decreases-loop-came g l = length l.initial.buffer - l.came
