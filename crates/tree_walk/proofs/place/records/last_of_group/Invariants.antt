use Rattle.tree_walk.proofs.LastRecord.{IsPassed}
use Rattle.tree_walk.proofs.place.records.last_of_group.Given as goal

abbrev pub invariant-loop : goal.invariant-loop
invariant-loop l = IsPassed l.page l.at
