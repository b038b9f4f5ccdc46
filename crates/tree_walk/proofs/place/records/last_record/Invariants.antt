use Rattle.std.proofs.Common.{◌≡◌, ◌-◌, ◌≤◌, get_or}
use Rattle.index_page.specs.Header.{records_of}
use Rattle.tree_walk.proofs.place.records.last_record.Given as goal

abbrev pub invariant-loop-k : goal.invariant-loop-k
invariant-loop-k l = record { least : 1 ≤ l.k; at : l.at ≡ get_or (records_of l.page) (l.k - 1) 0 }
