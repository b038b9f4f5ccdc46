use Rattle.page_source.proofs.SparseFiles.{whole_none}
use Rattle.page_source.proofs.memory.map.PageMap.new.Goals as goal

pub invariant_of-result : goal.invariant_of-result
invariant_of-result c = rw c.new.ensures.empty whole_none
