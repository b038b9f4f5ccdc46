use Rattle.std.proofs.Common.{◌≡◌, true}
use Rattle.page_source.specs.Verdict.{AllBefore}
use Rattle.space_audit.specs.Marks.{is_set}
use Rattle.table_check.specs.Trees.{NamedCheck}
use Rattle.table_check.proofs.trees.check_named.Given as goal

-- the segments before this one are named
abbrev pub invariant-loop-segment : goal.invariant-loop-segment
invariant-loop-segment l = AllBefore l.space.segments (NamedCheck (λ segment. is_set l.named segment ≡ true)) l.segment
