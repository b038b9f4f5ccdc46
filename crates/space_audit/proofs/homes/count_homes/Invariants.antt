use Rattle.std.proofs.Common.{◌≡◌, ℕ, length}
use Rattle.space_audit.proofs.AtHome.{Counted}
use Rattle.space_audit.proofs.homes.count_homes.Given as goal

abbrev pub invariant-loop-home : goal.invariant-loop-home
invariant-loop-home l = record {
  room : length l.counts.items ≡ l.lists;
  counted : Counted l.homes l.counts.items
      l.lists l.home-index;
}
