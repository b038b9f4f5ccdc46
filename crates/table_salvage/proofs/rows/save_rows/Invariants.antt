use Rattle.std.proofs.Common.{◌≡◌, ◌+◌}
use Rattle.index_page.specs.Header.{record_at}
use Rattle.salvage_model.specs.Records.{list_start}
use Rattle.table_salvage.specs.Ready.{IsReady, AreFew, most_rows}
use Rattle.table_salvage.specs.Work.{Goes, RowsDone}
use Rattle.table_salvage.specs.Over.{PartOver, IsPaid}
use Rattle.table_salvage.proofs.PartSteps.{done}
use Rattle.table_salvage.proofs.rows.save_rows.Given as goal

abbrev pub invariant-loop-k : goal.invariant-loop-k
invariant-loop-k g l = record {
  ready : IsReady g.S.PageSource l.source l.search l.room;
  page : l.room.page ≡ l.fn.room.page;
  at : l.origin ≡ record_at l.fn.room.page (list_start l.search.kind l.fn.room.page) l.k;
  few : AreFew (l.n + 1) (most_rows l.n + (l.list.place + l.k)) l.room.saved;
  paid : IsPaid 0 l.fn.room.marks l.room.marks l.fn.steps l.steps;
  over : PartOver g.S.PageSource g.O.ByteSink g.E.ByteSink (l.fn.source, l.fn.sink, l.fn.losses)
      (l.source, l.sink, l.losses) l.fn.room.unheard l.room.unheard l.fn.steps l.steps done;
  goes : Goes g.S.PageSource g.O.ByteSink g.E.ByteSink (l.fn.source, l.fn.sink, l.fn.losses)
      (l.source, l.sink, l.losses) l.fn.room l.room l.search done (RowsDone l.n 0) (RowsDone l.n (l.list.place + l.k));
}
