use Rattle.std.proofs.Common.{length, sym, ap, ◌∙◌}
use Rattle.page_source.proofs.SparseFiles.{entries_put, whole_put}
use Rattle.page_source.proofs.memory.map.PageMap.put.Goals as goal

pub invariant_of-self-2 : goal.invariant_of-self-2
invariant_of-self-2 c =
    let put = entries_put _ _ c.args.n c.args.page c.in_ok-insert.ensures.updates.0 in
    rw put (whole_put _ c.args.n c.args.page c.self.invariant
    (ap length (sym c.bytes.ensures.same) ∙ c.bytes.ensures.size))

pub returns-clause-ok : goal.returns-clause-ok
returns-clause-ok c = rw (← c.self.view_is) (entries_put _ _ c.args.n c.args.page c.in_ok-insert.ensures.updates.0)
