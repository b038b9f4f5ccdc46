use Rattle.std.proofs.Common.{length}
use Rattle.schema_text.proofs.ReadingLemmas.{IsReading}
use Rattle.schema_text.proofs.table.Schema.read.Given as goal

abbrev pub invariant-loop-line : goal.invariant-loop-line
invariant-loop-line l = IsReading l.text l.rest l.part

abbrev pub decreases-loop-line : goal.decreases-loop-line
decreases-loop-line l = length l.rest
