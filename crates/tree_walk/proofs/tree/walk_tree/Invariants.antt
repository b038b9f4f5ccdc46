use Rattle.std.proofs.Common.{◌≡◌, ◌≤◌, ◌+◌, ◌*◌, length, IfSome}
use Rattle.page_source.specs.Lists.{unmarked}
use Rattle.page_source.specs.Calls.{AsksNoMore}
use Rattle.space_audit.specs.Marks.{StaysMarked}
use Rattle.tree_walk.specs.Index.{index_of}
use Rattle.tree_walk.specs.Room.{HasSameRoom}
use Rattle.tree_walk.proofs.States.{TreeState}
use Rattle.tree_walk.proofs.tree.walk_tree.Given as goal

abbrev pub invariant-loop-depth : goal.invariant-loop-depth
invariant-loop-depth g l =
    let content = g.S.PageSource.content in
    record {
      same : content l.source ≡ content l.fn.source;
      members : length l.marks ≡ length l.fn.marks;
      marked : StaysMarked l.fn.marks l.marks;
      later : g.S.PageSource.faults l.fn.source ≤ g.S.PageSource.faults l.source;
      asked : AsksNoMore g.S.PageSource l.fn.source l.source l.fn.steps l.steps;
      spent : l.steps + 2 * unmarked l.marks + l.row.pages ≤ l.fn.steps + 2 * unmarked l.fn.marks;
      fewer : l.row.pages + unmarked l.marks ≤ unmarked l.fn.marks;
      some : 1 ≤ l.row.pages;
      told : IfSome (content l.fn.source) (λ file. TreeState (index_of file l.root l.leaf l.node) l.top l.depth
          l.fn.marks l.fn.named l.marks l.row);
      room : HasSameRoom l.fn.walk l.walk;
    }
