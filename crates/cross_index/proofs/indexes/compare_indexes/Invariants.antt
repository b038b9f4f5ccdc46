use Rattle.std.proofs.Common.{◌≡◌, ◌+◌, ◌≤◌, drop}
use Rattle.page_source.specs.Calls.{OfFile, AsksNoMore}
use Rattle.table_check.specs.Taken.{leaves_of}
use Rattle.cross_index.proofs.AllSteps.{HaveMatched}
use Rattle.cross_index.proofs.indexes.compare_indexes.Given as goal

-- the secondary indexes before this one have the keys of the rows
abbrev pub invariant-loop-index : goal.invariant-loop-index
invariant-loop-index g l =
    let content = g.S.PageSource.content in
    record {
      some : 1 ≤ l.index;
      same : content l.source ≡ content l.fn.source;
      later : g.S.PageSource.faults l.fn.source ≤ g.S.PageSource.faults l.source;
      asked : AsksNoMore g.S.PageSource l.fn.source l.source l.fn.steps l.steps;
      cost : l.steps + leaves_of (drop l.index l.ends) ≤ l.fn.steps + leaves_of (drop 1 l.ends);
      told : OfFile g.S.PageSource l.fn.source (λ file. HaveMatched file l.schema l.index l.entries);
    }
