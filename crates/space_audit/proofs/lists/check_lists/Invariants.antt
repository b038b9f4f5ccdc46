use Rattle.std.proofs.Common.{List, ℕ, ◌+◌, ◌*◌, ◌≤◌}
use Rattle.page_source.specs.Verdict.{AllBefore}
use Rattle.inode_segments.specs.Inodes.{segments}
use Rattle.space_audit.specs.Lists.{IsListed, SegmentListsCheck}
use Rattle.space_audit.proofs.AtHome.{homes_below}
use Rattle.space_audit.proofs.lists.check_lists.Given as goal

abbrev pub invariant-loop-s : goal.invariant-loop-s
invariant-loop-s g l =
    record {
      held : (file : List ℕ) → IsListed file l.header l.inodes l.nodes l.homes.numbers
          → AllBefore (segments file) (SegmentListsCheck file) l.s;
      spent : l.steps ≤ l.fn.steps + homes_below l.homes.numbers (3 + 3 * l.s);
      onward : l.fn.steps ≤ l.steps;
    }
