use Rattle.std.proofs.Common.{◌≡◌, ◌∙◌, Some, None, Ok, Err, refl, ap, arith}
use Rattle.std.proofs.lemmas.Result.{err_from_is_err_and}
use Rattle.page_source.proofs.Told.{map_told2, map_told3, map_told4, map_told5}
use Rattle.sql_dump.specs.Cells.{RowOnLeaf, row_on}
use Rattle.sql_dump.proofs.TableLines.{can_give, found_here, rows_halt, rows_more, rows_end, rows_last, row_here}
use Rattle.sql_dump.proofs.TableLines.{can_read_row, pages_here, row_given}
use Rattle.sql_dump.proofs.Sends.{all_sent, sent_cut}
use Rattle.sql_dump.proofs.SomeRows.{no_rows, one_more, all_rows}
use Rattle.sql_dump.proofs.rows.put_rows.Goals as goal

pub next-requires-clause-reads : goal.next-requires-clause-reads
next-requires-clause-reads g c =
    let i = c.loop-origin.invariant in
    rw i.same
    (map_told2 (g.S.PageSource.content c.args.source.now) (λ file can so. can_give can.walked so) c.requires.told
    i.told)

pub returns-in_err-origin-clause-puts : goal.returns-in_err-origin-clause-puts
returns-in_err-origin-clause-puts g c =
    let i = c.loop-origin.invariant in
    let finds = rw i.same at c.in_err-origin.ensures.exact in
    let r = err_from_is_err_and c.from_residual.result c.from_residual.ensures.1 in
    rw (r.1, r.2)
    (map_told3 (g.S.PageSource.content c.args.source.now)
    (λ file can so finds all reads. rows_halt c.next.new.self c.in_err-origin.field-0.0 all so
    (found_here (Err c.in_err-origin.field-0.0) c.next.new.self can.walked so finds) reads)
    c.requires.told i.told finds)

pub returns-in_err-read-clause-puts : goal.returns-in_err-read-clause-puts
returns-in_err-read-clause-puts g c =
    let i = c.loop-origin.invariant in
    let table = c.args.reader.now.table in
    let finds = rw (c.in-Some.is, i.same) at c.in_ok-origin.ensures.exact in
    let readable = rw (c.page-page.ensures, i.table) at c.in_err-read.ensures.readable in
    map_told3 (g.S.PageSource.content c.args.source.now)
    (λ file can so finds all reads.
    let hand = found_here (Ok (Some c.in-Some.origin)) c.next.new.self can.walked so finds in
    let here = row_here file table c.next.new.self so.j c.in-Some.origin all hand.0 reads in
    let ok = readable here.readable.spelled here.readable.ends in
    absurd (cc ok))
    c.requires.told i.told finds

pub put_line-requires : goal.put_line-requires
put_line-requires g c =
    let i = c.loop-origin.invariant in
    let finds = rw (c.in-Some.is, i.same) at c.in_ok-origin.ensures.exact in
    let row : c.row-row.result.row ≡ row_on c.args.reader.now.table c.next.new.self.leaf.page c.in-Some.origin =
    row_given c.in-Some.origin (ap (λ (on : RowOnLeaf). on.row) c.row-row.ensures)
    (c.in_ok-read.ensures.table ∙ i.table) c.page-page.ensures
    (rw i.table at c.in_ok-read.ensures.read) in
    let same = c.in_ok-origin.ensures.over.same ∙ i.same in
    record {
      told = rw (same, row)
          (map_told3 (g.S.PageSource.content c.args.source.now)
          (λ file can so finds.
          let hand = found_here (Ok (Some c.in-Some.origin)) c.next.new.self can.walked so finds in
          can_read_row c.next.new.self c.in-Some.origin can.all c.requires.table can.reads so hand.0)
          c.requires.told i.told finds);
    }

pub loop-origin-preserved : goal.loop-origin-preserved
loop-origin-preserved g c =
    let i = c.loop-origin.invariant in
    let table = c.args.reader.now.table in
    let finds = rw (c.in-Some.is, i.same) at c.in_ok-origin.ensures.exact in
    let row : c.row-row.result.row ≡ row_on table c.next.new.self.leaf.page c.in-Some.origin =
    row_given c.in-Some.origin (ap (λ (on : RowOnLeaf). on.row) c.row-row.ensures)
    (c.in_ok-read.ensures.table ∙ i.table) c.page-page.ensures
    (rw i.table at c.in_ok-read.ensures.read) in
    let same = c.in_ok-origin.ensures.over.same ∙ i.same in
    let puts = rw (same, row) at c.in_ok-put_line.ensures.moves in
    let left = rw (same, row) at c.in_ok-put_line.ensures.left in
    let goes_on = rw c.in-Some.is at c.in_ok-origin.ensures.goes_on in
    record {
      same = c.in_ok-put_line.ensures.over.same ∙ same;
      source_later = omega (
        arith,
        i.source_later,
        c.in_ok-origin.ensures.over.cause.later,
        c.in_ok-put_line.ensures.over.source_later,
      );
      asked = omega (arith, i.asked, c.in_ok-origin.ensures.over.asked, c.in_ok-put_line.ensures.over.asked);
      sink_later = omega (arith, i.sink_later, c.in_ok-put_line.ensures.over.sink_later);
      cost = omega (arith, i.cost, c.in_ok-origin.ensures.steps, c.in_ok-put_line.ensures.cost);
      goes_on = goes_on;
      table = c.in_ok-read.ensures.table ∙ i.table;
      some = one_more table (g.O.ByteSink.written c.args.sink.now) (g.O.ByteSink.written c.loop-origin.sink)
          (g.O.ByteSink.written c.put_line.new.sink) c.loop-origin.buffer.bytes c.put_line.new.buffer.bytes
          c.args.rows.now.live c.loop-origin.rows.live c.next.new.self.live i.some
          (rw row at c.in_ok-put_line.ensures.some) (rw c.in-Some.is at c.in_ok-origin.ensures.fewer);
      told = map_told5 (g.S.PageSource.content c.args.source.now)
          (λ file can so finds puts left.
          let hand = found_here (Ok (Some c.in-Some.origin)) c.next.new.self can.walked so finds in
          rows_more c.next.new.self c.put_line.new.room.left _ (g.O.ByteSink.written c.put_line.new.sink)
          c.put_line.new.buffer.bytes c.in-Some.origin so hand.0 hand.1
          (pages_here file table c.next.new.self so.j c.in-Some.origin c.requires.table hand.0) left
          (λ row here. puts row here.reads))
          c.requires.told i.told finds puts left;
    }

pub returns-in_err-put_line-clause-puts : goal.returns-in_err-put_line-clause-puts
returns-in_err-put_line-clause-puts g c =
    let i = c.loop-origin.invariant in
    let finds = rw (c.in-Some.is, i.same) at c.in_ok-origin.ensures.exact in
    let row : c.row-row.result.row ≡ row_on c.args.reader.now.table c.next.new.self.leaf.page c.in-Some.origin =
    row_given c.in-Some.origin (ap (λ (on : RowOnLeaf). on.row) c.row-row.ensures)
    (c.in_ok-read.ensures.table ∙ i.table) c.page-page.ensures
    (rw i.table at c.in_ok-read.ensures.read) in
    let same = c.in_ok-origin.ensures.over.same ∙ i.same in
    let puts = rw (same, row) at c.in_err-put_line.ensures.moves in
    let r = err_from_is_err_and c.from_residual-in_err-put_line.result c.from_residual-in_err-put_line.ensures.1 in
    rw (r.1, r.2)
    (map_told4 (g.S.PageSource.content c.args.source.now)
    (λ file can so finds puts all reads.
    let hand = found_here (Ok (Some c.in-Some.origin)) c.next.new.self can.walked so finds in
    rows_end c.next.new.self (g.O.ByteSink.written c.put_line.new.sink) c.put_line.new.buffer.bytes c.in-Some.origin
    c.in_err-put_line.field-0.0 all so hand.0 reads (λ row here. puts row here.reads))
    c.requires.told i.told finds puts)

pub returns-in_err-flush-clause-puts : goal.returns-in_err-flush-clause-puts
returns-in_err-flush-clause-puts g c =
    let i = c.loop-origin.invariant in
    let finds = rw (c.in_default.is, i.same) at c.in_ok-origin.ensures.exact in
    let r = err_from_is_err_and c.from_residual-in_err-flush.result c.from_residual-in_err-flush.ensures.1 in
    rw (r.1, r.2)
    (map_told3 (g.S.PageSource.content c.args.source.now)
    (λ file can so finds all reads.
    sent_cut (g.O.ByteSink.written c.args.sink.now) (g.O.ByteSink.written c.loop-origin.sink) (g.O.ByteSink.written
    c.flush.new.sink) _ c.loop-origin.buffer.bytes
    (rows_last all so (found_here (Ok None) c.next.new.self can.walked so finds) reads)
    c.in_err-flush.ensures.puts.failed)
    c.requires.told i.told finds)

pub returns-clause-puts : goal.returns-clause-puts
returns-clause-puts g c =
    let i = c.loop-origin.invariant in
    let finds = rw (c.in_default.is, i.same) at c.in_ok-origin.ensures.exact in
    map_told3 (g.S.PageSource.content c.args.source.now)
    (λ file can so finds all reads.
    all_sent (g.O.ByteSink.written c.args.sink.now) (g.O.ByteSink.written c.loop-origin.sink) (g.O.ByteSink.written
    c.flush.new.sink) _ c.loop-origin.buffer.bytes
    (rows_last all so (found_here (Ok None) c.next.new.self can.walked so finds) reads)
    c.in_ok-flush.ensures.puts.ok)
    c.requires.told i.told finds

pub returns-clause-some : goal.returns-clause-some
returns-clause-some g c =
    let i = c.loop-origin.invariant in
    let all = rw c.in_default.is at c.in_ok-origin.ensures.all in
    all_rows c.args.reader.now.table (g.O.ByteSink.written c.args.sink.now) (g.O.ByteSink.written c.loop-origin.sink)
    (g.O.ByteSink.written c.flush.new.sink) c.loop-origin.buffer.bytes c.args.rows.now.live c.loop-origin.rows.live
    i.some (all refl).live c.in_ok-flush.ensures.puts.ok
