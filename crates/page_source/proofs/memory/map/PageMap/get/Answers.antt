use Rattle.page_source.proofs.SparseFiles.{found_is}
use Rattle.page_source.proofs.memory.map.PageMap.get.Goals as goal

pub returns : goal.returns
returns c = rw (← c.self.view_is) (found_is _ c.args.n c.get.result c.get.ensures.value)
