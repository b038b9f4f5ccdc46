use Rattle.std.proofs.Common.{◌≤◌}
use Rattle.page_scan.specs.Scan.{rest_of}
use Rattle.page_scan.proofs.Turns.{PassedTold}
use Rattle.page_scan.proofs.scanner.Scanner.next.Given as goal

abbrev pub invariant-loop-turn : goal.invariant-loop-turn
invariant-loop-turn g l =
    let left = g.Q.ByteSource.left in
    let faults = g.Q.ByteSource.faults in
    record {
      passed : PassedTold (rest_of l.fn.self (left l.fn.source)) (rest_of l.self (left l.source)) l._turn;
      later : faults l.fn.source ≤ faults l.source;
    }
