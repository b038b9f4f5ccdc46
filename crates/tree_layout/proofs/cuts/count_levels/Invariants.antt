use Rattle.std.proofs.Common.{◌≡◌, ◌-◌, ◌++◌, length}
use Rattle.tree_layout.specs.Counting.{counts_from}
use Rattle.tree_layout.proofs.cuts.count_levels.Given as goal

abbrev pub invariant-loop-level : goal.invariant-loop-level
invariant-loop-level l =
    l.counts.items ++ counts_from (l.most - l.level) l.pages.items ≡ counts_from (length l.fn.leaves.items)
    l.fn.leaves.items
