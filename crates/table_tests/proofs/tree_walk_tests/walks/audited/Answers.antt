use Rattle.table_tests.proofs.tree_walk_tests.walks.audited.Goals as goal

pub returns : goal.returns
returns g c = rw c.audit.ensures.over.same c.audit.ensures.audited
