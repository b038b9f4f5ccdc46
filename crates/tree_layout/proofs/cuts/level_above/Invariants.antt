use Rattle.std.proofs.Common.{◌≡◌, take}
use Rattle.tree_layout.specs.Counting.{nothing_cut, cut_more}
use Rattle.tree_layout.proofs.Counting.{even}
use Rattle.tree_layout.proofs.cuts.level_above.Given as goal

abbrev pub invariant-loop-k : goal.invariant-loop-k
invariant-loop-k l = l.cut ≡ cut_more nothing_cut (even (take l.k l.pages))
