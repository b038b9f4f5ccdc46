use Rattle.std.proofs.Common.{◌≡◌, ◌+◌, ◌≤◌}
use Rattle.page_source.specs.Calls.{OfFile, AsksNoMore}
use Rattle.cross_index.proofs.ChainSteps.{ChainSoFar}
use Rattle.cross_index.proofs.long.read_chain.Given as goal

abbrev pub invariant-loop-length : goal.invariant-loop-length
invariant-loop-length g l =
    let content = g.S.PageSource.content in
    record {
      same : content l.source ≡ content l.fn.source;
      later : g.S.PageSource.faults l.fn.source ≤ g.S.PageSource.faults l.source;
      asked : AsksNoMore g.S.PageSource l.fn.source l.source l.fn.steps l.steps;
      cost : l.steps + l.room.left ≡ l.fn.steps + l.fn.room.left;
      told : OfFile g.S.PageSource l.fn.source (λ file.
          ChainSoFar file l.fn.reference l.reader l.fn.room.value.items l.room.value.items l.fn.room.left l.room.left);
    }

abbrev pub decreases-loop-length : goal.decreases-loop-length
decreases-loop-length g l = l.room.left
