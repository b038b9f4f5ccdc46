use Rattle.std.proofs.Common.{◌≡◌, ◌+◌, ◌≤◌, List, length, Option, IfSome}
use Rattle.column_values.specs.declared.value.Value.{Value}
use Rattle.page_source.specs.Objects.{GrowsBy}
use Rattle.page_source.specs.Calls.{AsksNoMore}
use Rattle.salvage_model.specs.SavedRow.{SavesRow}
use Rattle.row_salvage.proofs.PartialLine.{partial_so_far, first_pages}
use Rattle.row_salvage.proofs.partial_line.put_partial.Given as goal

abbrev pub invariant-loop-c : goal.invariant-loop-c
invariant-loop-c g l =
    let content = g.S.PageSource.content in
    let written = g.O.ByteSink.written in
    record {
      same : content l.source ≡ content l.fn.source;
      source_later : g.S.PageSource.faults l.fn.source ≤ g.S.PageSource.faults l.source;
      asked : AsksNoMore g.S.PageSource l.fn.source l.source l.fn.steps l.steps;
      sink_later : g.O.ByteSink.faults l.fn.sink ≤ g.O.ByteSink.faults l.sink;
      cost : l.steps + l.room.left ≡ l.fn.steps + l.fn.room.left;
      fewer : l.room.left ≤ l.fn.room.left;
      came : l.writer.came ≡ l.c;
      used : IfSome (content l.fn.source) (λ file.
          l.room.left + length (first_pages file l.fn.row.row l.fn.losses l.c) ≡ l.fn.room.left);
      text : IfSome (content l.fn.source) (λ file. (row_values : List (Option Value))
          → SavesRow file l.fn.row.row l.fn.losses row_values
          → GrowsBy (written l.fn.sink) (written l.sink) (partial_so_far l.fn.row.row.table row_values l.c));
    }
