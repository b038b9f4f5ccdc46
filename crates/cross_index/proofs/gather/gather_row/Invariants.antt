use Rattle.std.proofs.Common.{◌≡◌, ◌+◌, ◌≤◌}
use Rattle.page_source.specs.Calls.{OfFile, AsksNoMore}
use Rattle.cross_index.proofs.RowSteps.{RowSoFar}
use Rattle.cross_index.proofs.gather.gather_row.Given as goal

abbrev pub invariant-loop-k : goal.invariant-loop-k
invariant-loop-k g l =
    let content = g.S.PageSource.content in
    record {
      same : content l.source ≡ content l.fn.source;
      later : g.S.PageSource.faults l.fn.source ≤ g.S.PageSource.faults l.source;
      asked : AsksNoMore g.S.PageSource l.fn.source l.source l.fn.steps l.steps;
      cost : l.steps + l.room.left ≡ l.fn.steps + l.fn.room.left;
      told : OfFile g.S.PageSource l.fn.source (λ file.
          RowSoFar file l.page l.places l.kept l.fn.cells l.cells l.fn.room.left l.room.left l.k-index);
    }
