use Rattle.std.proofs.Common.{false}
use Rattle.table_salvage.specs.Ready.{IsReady, AreFew, most_rows}
use Rattle.table_salvage.specs.Work.{Goes, PagesDone}
use Rattle.table_salvage.specs.Over.{PartOver, IsPaid}
use Rattle.table_salvage.proofs.PartSteps.{done}
use Rattle.table_salvage.proofs.file.save_pages.Given as goal

abbrev pub invariant-loop-n : goal.invariant-loop-n
invariant-loop-n g l = record {
  ready : IsReady g.S.PageSource l.source l.search l.room;
  few : AreFew l.n (most_rows l.n) l.room.saved;
  paid : IsPaid l.n l.fn.room.marks l.room.marks l.fn.steps l.steps;
  over : PartOver g.S.PageSource g.O.ByteSink g.E.ByteSink (l.fn.source, l.fn.sink, l.fn.losses)
      (l.source, l.sink, l.losses) false l.room.unheard l.fn.steps l.steps done;
  goes : Goes g.S.PageSource g.O.ByteSink g.E.ByteSink (l.fn.source, l.fn.sink, l.fn.losses)
      (l.source, l.sink, l.losses) l.fn.room l.room l.search done (PagesDone 0) (PagesDone l.n);
}
