use Rattle.std.proofs.Common.{◌≡◌, map, take}
use Rattle.tree_layout.specs.Counting.{weight_of, nothing_cut, cut_more}
use Rattle.space_builder.proofs.counts.cut_leaves.Given as goal

-- the leaves of the entries so far
abbrev pub invariant-loop-k : goal.invariant-loop-k
invariant-loop-k g l =
    l.cut ≡ cut_more nothing_cut (map (weight_of l.leaf l.node) (take l.k (g.E.Entries.entries l.entries)))
