use Rattle.std.proofs.Common.{◌≡◌, ◌+◌, ◌*◌, ◌≤◌, length, IfSome}
use Rattle.page_source.specs.Lists.{unmarked}
use Rattle.page_source.specs.Calls.{AsksNoMore}
use Rattle.space_audit.specs.Marks.{StaysMarked}
use Rattle.tree_walk.specs.Tree.{index_in}
use Rattle.tree_walk.specs.Room.{HasSameRoom}
use Rattle.tree_walk.proofs.States.{LevelState}
use Rattle.tree_walk.proofs.level.walk_level.Given as goal

abbrev pub invariant-places : goal.invariant-places
invariant-places g l =
    let content = g.S.PageSource.content in
    record {
      same : content l.source ≡ content l.fn.source;
      members : length l.marks ≡ length l.fn.marks;
      marked : StaysMarked l.fn.marks l.marks;
      later : g.S.PageSource.faults l.fn.source ≤ g.S.PageSource.faults l.source;
      asked : AsksNoMore g.S.PageSource l.fn.source l.source l.fn.steps l.steps;
      spent : l.steps + 2 * unmarked l.marks + l.place.j + l.place.cursor.more ≤ l.fn.steps + 2 * unmarked
          l.fn.marks + l.fn.upper.pages;
      told : IfSome (content l.fn.source) (λ file. LevelState (index_in file l.aim.tree) l.aim
          l.fn.marks l.marks l.place l.walk.parent l.tally);
      room : HasSameRoom l.fn.walk l.walk;
      few : l.place.j + unmarked l.marks ≤ length l.marks;
      fewer : l.place.j + unmarked l.marks ≤ unmarked l.fn.marks;
      live : l.tally.live ≤ 65536 * l.place.j;
      deleted : l.tally.deleted ≤ 65536 * l.place.j;
    }

abbrev pub decreases-places : goal.decreases-places
decreases-places g l = unmarked l.marks
