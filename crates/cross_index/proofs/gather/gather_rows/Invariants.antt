use Rattle.std.proofs.Common.{◌≡◌, ◌+◌, ◌≤◌, false}
use Rattle.page_source.specs.Calls.{OfFile, AsksNoMore}
use Rattle.cross_index.proofs.GatherSteps.{Gathering}
use Rattle.cross_index.proofs.gather.gather_rows.Given as goal

-- as many rows were kept as were given
abbrev pub invariant-loop-origin : goal.invariant-loop-origin
invariant-loop-origin g l =
    let content = g.S.PageSource.content in
    record {
      same : content l.source ≡ content l.fn.source;
      later : g.S.PageSource.faults l.fn.source ≤ g.S.PageSource.faults l.source;
      asked : AsksNoMore g.S.PageSource l.fn.source l.source l.fn.steps l.steps;
      goes_on : l.rows.ended ≡ false;
      members : l.located.members ≡ l.fn.located.members;
      spent : l.steps + l.room.left + l.rows.leaf.may_fetch ≡ l.fn.steps + l.fn.room.left + l.fn.rows.leaf.may_fetch;
      counted : l.count + l.rows.live ≡ l.fn.rows.live;
      told : OfFile g.S.PageSource l.fn.source (λ file.
          Gathering file l.schema l.rows l.cells l.fn.room.left l.room.left l.count);
    }

abbrev pub decreases-loop-origin : goal.decreases-loop-origin
decreases-loop-origin g l = l.rows.live
