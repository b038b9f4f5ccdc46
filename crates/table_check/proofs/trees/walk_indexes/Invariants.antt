use Rattle.std.proofs.Common.{◌≡◌, ◌≤◌, length}
use Rattle.page_source.specs.Calls.{OfFile, AsksNoMore}
use Rattle.tree_walk.specs.Room.{HasRoom}
use Rattle.table_check.specs.Taken.{AreWalked, AreEnds, LeavesRoom, leaves_of}
use Rattle.table_check.proofs.trees.walk_indexes.Given as goal

-- the trees before this one hold
abbrev pub invariant-loop-j : goal.invariant-loop-j
invariant-loop-j g l =
    let content = g.S.PageSource.content in
    record {
      same : content l.source ≡ content l.fn.source;
      later : g.S.PageSource.faults l.fn.source ≤ g.S.PageSource.faults l.source;
      asked : AsksNoMore g.S.PageSource l.fn.source l.source l.fn.steps l.steps;
      members : length l.taken.pages ≡ length l.fn.taken.pages;
      segments : length l.taken.segments ≡ length l.fn.taken.segments;
      room : HasRoom l.walk 128;
      leaves : LeavesRoom (leaves_of l.list) l.fn.taken.pages l.taken.pages l.fn.steps l.steps;
      count : length l.list ≡ l.j;
      least : l.clustered.leaves ≤ leaves_of l.list;
      ends : OfFile g.S.PageSource l.fn.source (λ file. AreEnds file l.schema l.j l.list);
      told : OfFile g.S.PageSource l.fn.source (λ file.
          AreWalked file l.schema l.j l.taken l.clustered l.leaf_segments.items);
    }
