use Rattle.std.proofs.Common.{◌≡◌, map}
use Rattle.std.specs.List.{range_with_len}
use Rattle.space_audit.specs.Holders.{first_holder}
use Rattle.space_audit.proofs.page_claims.first_holders.Given as goal

abbrev pub invariant-loop-n : goal.invariant-loop-n
invariant-loop-n l = l.holders.items ≡ map (first_holder l.inodes.pages) (range_with_len 0 l.n)
