use Rattle.std.proofs.Common.{◌≡◌, ℕ}
use Rattle.tree_walk.specs.Index.{Index, page_in}
use Rattle.tree_walk.specs.Records.{HasPassed}
use Rattle.key_lookup.proofs.Found.{NoneBefore}
use Rattle.key_lookup.proofs.leaf.find_row.Given as goal

-- the records so far were passed, and none of them is the row
abbrev pub invariant-loop-i : goal.invariant-loop-i
invariant-loop-i l = record {
  passed : HasPassed l.page l.i l.at;
  none : (index : Index) (n : ℕ) → l.page ≡ page_in index n → l.fields ≡ index.leaf → NoneBefore index l.key n l.i;
  members : l.located.members ≡ l.fn.located.members;
}
