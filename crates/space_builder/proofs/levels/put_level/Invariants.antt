use Rattle.space_builder.proofs.LevelRuns.{Stands}
use Rattle.space_builder.proofs.levels.put_level.Given as goal

abbrev pub invariant-loop-k : goal.invariant-loop-k
invariant-loop-k g l =
    Stands g.T.PageStore l.tree l.level l.fn.store l.store l.room.packer (g.E.Entries.entries l.entries) l.starts.items
    l.k
