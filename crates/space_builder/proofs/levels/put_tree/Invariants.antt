use Rattle.space_builder.proofs.TreeRuns.{TreeStands}
use Rattle.space_builder.proofs.levels.put_tree.Given as goal

abbrev pub invariant-loop-level : goal.invariant-loop-level
invariant-loop-level g l =
    TreeStands g.T.PageStore l.tree (g.E.Entries.entries l.entries) l.fn.store l.store l.firsts.items l.level
