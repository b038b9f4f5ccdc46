use Rattle.page_packer.proofs.FinishSteps.{IsLinked}
use Rattle.page_packer.proofs.packer.Packer.put_records.Given as goal

abbrev pub invariant-loop-k : goal.invariant-loop-k
invariant-loop-k l = IsLinked l.self.records l.fn.page l.page l.k
