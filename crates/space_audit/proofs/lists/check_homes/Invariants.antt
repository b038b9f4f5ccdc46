use Rattle.page_source.specs.Verdict.{AllBelow}
use Rattle.space_audit.specs.Lists.{NumberCheck}
use Rattle.space_audit.proofs.lists.check_homes.Given as goal

abbrev pub invariant-loop-extent : goal.invariant-loop-extent
invariant-loop-extent l = AllBelow (NumberCheck l.numbers l.lists) l.extent
