use Rattle.std.proofs.Common.{◌≡◌, ◌+◌, ◌≤◌, IfSome, false}
use Rattle.page_source.specs.Calls.{AsksNoMore}
use Rattle.sql_dump.proofs.TableLines.{RowsSoFar}
use Rattle.sql_dump.proofs.SomeRows.{SomeSoFar}
use Rattle.sql_dump.proofs.rows.put_rows.Given as goal

abbrev pub invariant-loop-origin : goal.invariant-loop-origin
invariant-loop-origin g l =
    let content = g.S.PageSource.content in
    let written = g.O.ByteSink.written in
    record {
      same : content l.source ≡ content l.fn.source;
      source_later : g.S.PageSource.faults l.fn.source ≤ g.S.PageSource.faults l.source;
      asked : AsksNoMore g.S.PageSource l.fn.source l.source l.fn.steps l.steps;
      sink_later : g.O.ByteSink.faults l.fn.sink ≤ g.O.ByteSink.faults l.sink;
      cost : l.steps + l.rows.leaf.may_fetch + l.room.left ≡ l.fn.steps + l.fn.rows.leaf.may_fetch + l.fn.room.left;
      goes_on : l.rows.ended ≡ false;
      table : l.reader.table ≡ l.fn.reader.table;
      some : SomeSoFar l.fn.reader.table (written l.fn.sink) (written l.sink) l.buffer.bytes l.fn.rows.live
          l.rows.live;
      told : IfSome (content l.fn.source) (λ file.
          RowsSoFar file l.fn.reader.table l.rows l.room.left (written l.fn.sink) (written l.sink) l.buffer.bytes);
    }

abbrev pub decreases-loop-origin : goal.decreases-loop-origin
decreases-loop-origin g l = l.rows.live
