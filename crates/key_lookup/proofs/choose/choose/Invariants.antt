use Rattle.std.proofs.Common.{◌≡◌, ◌-◌, ◌≤◌, get_or}
use Rattle.index_page.specs.Header.{records_of}
use Rattle.key_lookup.specs.Choice.{IsLast}
use Rattle.key_lookup.proofs.choose.choose.Given as goal

-- the record before this one is at hand, and the choice is the last one so far
abbrev pub invariant-loop-k : goal.invariant-loop-k
invariant-loop-k l = record {
  least : 1 ≤ l.k;
  at : l.at ≡ get_or (records_of l.page) (l.k - 1) 0;
  last : IsLast l.page l.node l.key l.chosen l.k;
  members : l.located.members ≡ l.fn.located.members;
}
