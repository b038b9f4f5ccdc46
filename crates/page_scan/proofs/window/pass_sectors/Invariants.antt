use Rattle.std.proofs.Common.{◌-◌, ◌≤◌, length}
use Rattle.page_scan.specs.Window.{Passes}
use Rattle.page_scan.proofs.window.pass_sectors.Given as goal

abbrev pub invariant-loop-bytes : goal.invariant-loop-bytes
invariant-loop-bytes l = record { within : l.bytes ≤ length l.ahead; passes : Passes l.ahead l.bytes }

abbrev pub decreases-loop-bytes : goal.decreases-loop-bytes
decreases-loop-bytes l = length l.ahead - l.bytes
