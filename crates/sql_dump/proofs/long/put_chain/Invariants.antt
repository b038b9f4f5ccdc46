use Rattle.std.proofs.Common.{◌≡◌, ◌+◌, ◌≤◌, IfSome}
use Rattle.page_source.specs.Calls.{AsksNoMore}
use Rattle.sql_dump.proofs.Chains.{ChainSoFar}
use Rattle.sql_dump.proofs.SomeValues.{SomeSoFar}
use Rattle.sql_dump.proofs.long.put_chain.Given as goal

abbrev pub invariant-loop-length : goal.invariant-loop-length
invariant-loop-length g l =
    let content = g.S.PageSource.content in
    let written = g.O.ByteSink.written in
    record {
      same : content l.source ≡ content l.fn.source;
      source_later : g.S.PageSource.faults l.fn.source ≤ g.S.PageSource.faults l.source;
      asked : AsksNoMore g.S.PageSource l.fn.source l.source l.fn.steps l.steps;
      sink_later : g.O.ByteSink.faults l.fn.sink ≤ g.O.ByteSink.faults l.sink;
      cost : l.steps + l.room.left ≡ l.fn.steps + l.fn.room.left;
      fewer : l.room.left ≤ l.fn.room.left;
      came : l.writer.came ≡ l.fn.writer.came;
      lacks : l.writer.lacks ≡ l.reader.lacks;
      some : SomeSoFar l.fn.kind (written l.fn.sink) (written l.sink) l.fn.reference.length l.writer.lacks;
      told : IfSome (content l.fn.source) (λ file.
          ChainSoFar file l.fn.reference l.fn.kind l.reader (written l.fn.sink) (written l.sink) l.fn.room.left
          l.room.left);
    }

abbrev pub decreases-loop-length : goal.decreases-loop-length
decreases-loop-length g l = l.room.left
