use Rattle.offpage_chain.proofs.Writes.{ArePut}
use Rattle.offpage_chain.proofs.write.write_chain.Given as goal

abbrev pub invariant-loop-k : goal.invariant-loop-k
invariant-loop-k g l = ArePut g.T.PageStore l.fn.store l.store l.space l.numbers l.bytes l.k
