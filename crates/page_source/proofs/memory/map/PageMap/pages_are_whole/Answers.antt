use Rattle.page_source.proofs.memory.map.PageMap.pages_are_whole.Goals as goal

pub returns : goal.returns
returns c = rw (← c.self.view_is) c.self.invariant
