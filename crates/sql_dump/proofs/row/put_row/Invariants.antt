use Rattle.std.proofs.Common.{◌≡◌, ◌+◌, ◌≤◌, List, length, All, IfSome}
use Rattle.column_values.specs.declared.value.Value.{Value}
use Rattle.page_source.specs.Objects.{GrowsBy}
use Rattle.page_source.specs.Calls.{AsksNoMore}
use Rattle.sql_dump.specs.Cells.{IsNear, ReadsRow, pages_of_columns}
use Rattle.sql_dump.proofs.RowLines.{line_so_far}
use Rattle.sql_dump.proofs.SomeRows.{SomeValues}
use Rattle.sql_dump.proofs.row.put_row.Given as goal

abbrev pub invariant-loop-c : goal.invariant-loop-c
invariant-loop-c g l =
    let content = g.S.PageSource.content in
    let written = g.O.ByteSink.written in
    record {
      same : content l.source ≡ content l.fn.source;
      source_later : g.S.PageSource.faults l.fn.source ≤ g.S.PageSource.faults l.source;
      asked : AsksNoMore g.S.PageSource l.fn.source l.source l.fn.steps l.steps;
      sink_later : g.O.ByteSink.faults l.fn.sink ≤ g.O.ByteSink.faults l.sink;
      cost : l.steps + l.room.left ≡ l.fn.steps + l.fn.room.left;
      fewer : l.room.left ≤ l.fn.room.left;
      came : l.writer.came ≡ l.c;
      some : SomeValues l.fn.row.row.table (written l.fn.sink) (written l.sink) l.c;
      near : All IsNear l.fn.row.row.places → l.room.left ≡ l.fn.room.left;
      used : IfSome (content l.fn.source) (λ file.
          l.room.left + length (pages_of_columns file l.fn.row.row l.c) ≡ l.fn.room.left);
      text : IfSome (content l.fn.source) (λ file. (row_values : List Value) → ReadsRow file l.fn.row.row row_values
          → GrowsBy (written l.fn.sink) (written l.sink) (line_so_far l.fn.row.row.table row_values l.c));
    }
