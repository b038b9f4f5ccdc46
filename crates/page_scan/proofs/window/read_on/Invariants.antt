use Rattle.std.proofs.Common.{◌≡◌, ◌-◌, ◌≤◌, length, take}
use Rattle.page_scan.specs.Scan.{rest_of}
use Rattle.page_scan.proofs.window.read_on.Given as goal

abbrev pub invariant-loop-came : goal.invariant-loop-came
invariant-loop-came g l =
    let left = g.Q.ByteSource.left in
    let faults = g.Q.ByteSource.faults in
    record {
      within : l.came ≤ length l.window;
      rest : rest_of (take l.came l.window) (left l.source) ≡ rest_of (take l.fn.came l.fn.window) (left l.fn.source);
      later : faults l.fn.source ≤ faults l.source;
    }

abbrev pub decreases-loop-came : goal.decreases-loop-came
decreases-loop-came g l = length l.initial.window - l.came
