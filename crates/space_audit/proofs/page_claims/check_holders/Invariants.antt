use Rattle.std.proofs.Common.{ℕ, List}
use Rattle.page_source.specs.Verdict.{AllBelow}
use Rattle.space_audit.specs.Audit.{ClaimCheck}
use Rattle.space_audit.specs.Holders.{IsHeld}
use Rattle.space_audit.proofs.page_claims.check_holders.Given as goal

abbrev pub invariant-loop-n : goal.invariant-loop-n
invariant-loop-n l = (file : List ℕ) → IsHeld file l.extents l.holders → AllBelow (ClaimCheck file) l.n
