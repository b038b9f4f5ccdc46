use Rattle.std.proofs.Common.{◌≡◌, ◌≤◌, ◌+◌}
use Rattle.page_source.specs.Calls.{OfFile, AsksNoMore}
use Rattle.tree_walk.specs.Index.{root_level}
use Rattle.tree_walk.specs.Room.{HasSameRoom}
use Rattle.key_lookup.specs.Tree.{index_in}
use Rattle.key_lookup.specs.Way.{IsHeldNode, IsOnWay}
use Rattle.key_lookup.proofs.way.find_leaf.Given as goal

-- the page in hand is the one at its depth, and all checks so far hold
abbrev pub invariant-loop-due : goal.invariant-loop-due
invariant-loop-due g l =
    let content = g.S.PageSource.content in
    record {
      same : content l.source ≡ content l.fn.source;
      later : g.S.PageSource.faults l.fn.source ≤ g.S.PageSource.faults l.source;
      asked : AsksNoMore g.S.PageSource l.fn.source l.source l.fn.steps l.steps;
      room : HasSameRoom l.fn.walk l.walk;
      held : IsHeldNode l.walk l.tree.leaf.now l.tree.node.now l.due;
      most : l.steps + l.due.stand.level ≤ l.fn.steps + 51;
      told : OfFile g.S.PageSource l.fn.source (λ file. IsOnWay (index_in file l.tree) l.key l.walk l.due);
      spent : OfFile g.S.PageSource l.fn.source (λ file.
          l.steps + l.due.stand.level ≤ l.fn.steps + root_level (index_in file l.tree) + 1);
    }

abbrev pub decreases-loop-due : goal.decreases-loop-due
decreases-loop-due g l = l.due.stand.level
