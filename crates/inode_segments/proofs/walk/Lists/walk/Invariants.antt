use Rattle.std.proofs.Common.{◌≡◌, ℕ, ◌+◌, ◌≤◌, ◌++◌, List, length, IfSome}
use Rattle.page_source.specs.Lists.{AreMarked, flag_in, unmarked}
use Rattle.page_source.specs.Calls.{AsksNoMore}
use Rattle.inode_segments.specs.Inodes.{stepped_pages}
use Rattle.inode_segments.specs.InodeChecks.{inode_list}
use Rattle.inode_segments.specs.Walk.{IsAt, Held, Grew}
use Rattle.inode_segments.proofs.walk.Lists.walk.Given as goal

abbrev pub invariant-loop-source : goal.invariant-loop-source
invariant-loop-source g l =
    let content = g.S.PageSource.content in
    let base = inode_list l.fn.self.header.now l.full in
    record {
      same : content l.source ≡ content l.fn.source;
      later : g.S.PageSource.faults l.fn.source ≤ g.S.PageSource.faults l.source;
      asked : AsksNoMore g.S.PageSource l.fn.source l.source l.fn.steps l.steps;
      size : length l.inodes.pages ≡ length l.fn.inodes.pages;
      spent : l.steps + unmarked l.inodes.pages ≡ l.fn.steps + unmarked l.fn.inodes.pages;
      room : l.count + unmarked l.inodes.pages ≤ length l.inodes.pages;
      at : IfSome (content l.fn.source) (λ file. IsAt file base l.step.address l.step.holder l.step.before l.count);
      held : IfSome (content l.fn.source) (λ file. (earlier : List ℕ) → AreMarked l.fn.inodes.pages earlier
          → Held file (flag_in l.fn.self.fragments.now) l.full earlier base l.count);
      marked : IfSome (content l.fn.source) (λ file. (earlier : List ℕ) → AreMarked l.fn.inodes.pages earlier
          → AreMarked l.inodes.pages (earlier ++ stepped_pages file base l.count));
      grew : IfSome (content l.fn.source) (λ file. Grew file (stepped_pages file base l.count) l.fn.inodes l.inodes);
    }

abbrev pub decreases-loop-source : goal.decreases-loop-source
decreases-loop-source g l = unmarked l.inodes.pages
