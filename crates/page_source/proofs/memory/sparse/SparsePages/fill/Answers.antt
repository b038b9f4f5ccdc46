use Rattle.std.proofs.Common.{◌∙◌}
use Rattle.page_source.proofs.SparseFiles.{found_page, missing_page}
use Rattle.page_source.proofs.memory.sparse.SparsePages.fill.Goals as goal

pub returns-in-Some : goal.returns-in-Some
returns-in-Some c =
    rw (← c.self.view_is) (found_page _ c.args.n _ c.in-Some.found.now c.in-Some.ensures
    (c.fill_page.ensures ∙ c.bytes.ensures.same))

pub returns-in-None : goal.returns-in-None
returns-in-None c = rw (← c.self.view_is) (missing_page _ c.args.n _ c.in-None.ensures c.clear.ensures)
