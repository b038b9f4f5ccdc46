use Rattle.std.proofs.Common.{◌≡◌, ◌<◌, length, get_or, refl, ap, sym, ◌∙◌, subst, inr, arith}
use Rattle.std.proofs.lemmas.Bool.{false≢true}
use Rattle.std.proofs.lemmas.Result.{err_from_is_err_and}
use Rattle.page_source.proofs.Told.{if_told, map_told, map_told2}
use Rattle.column_values.specs.declared.value.Value.TheVariants.{Null}
use Rattle.schema_text.specs.Grammar.{IsTable}
use Rattle.row_text.specs.Writer.{Writer}
use Rattle.sql_dump.specs.Cells.{RowOnLeaf, CellView, HavePlaces}
use Rattle.sql_dump.proofs.Cells.{cell_reads, cell_pages, cell_near, column_count, sound_value}
use Rattle.sql_dump.proofs.RowLines.{line_begins, line_cut, line_more, line_ends, line_closes, close_cut, pages_none}
use Rattle.sql_dump.proofs.RowLines.{pages_more, pages_within}
use Rattle.sql_dump.proofs.SomeValues.{part_grows}
use Rattle.sql_dump.proofs.SomeRows.{row_begins, row_goes_on, row_breaks, row_stops, row_closes}
use Rattle.sql_dump.proofs.row.put_row.Goals as goal

pub returns-in_err-writer-clause-puts : goal.returns-in_err-writer-clause-puts
returns-in_err-writer-clause-puts g c =
    let part = rw (ap (λ (on : RowOnLeaf). on.row.table) c.row.view_is) at c.in_err-writer.ensures.puts.failed in
    let r = err_from_is_err_and c.from_residual.result c.from_residual.ensures.1 in
    rw (r.1, r.2)
    (if_told (g.S.PageSource.content c.args.source.now)
    (λ file row_values reads. line_cut c.args.row.now.row.table row_values (g.O.ByteSink.written c.args.sink.now)
    (g.O.ByteSink.written c.begin.new.sink) reads.count part))

pub returns-in_err-writer-clause-some : goal.returns-in_err-writer-clause-some
returns-in_err-writer-clause-some g c =
    let r = err_from_is_err_and c.from_residual.result c.from_residual.ensures.1 in
    rw r.1 (part_grows _ _ _ c.in_err-writer.ensures.puts.failed)

pub returns-then-not-is_sound-clause-some : goal.returns-then-not-is_sound-clause-some
returns-then-not-is_sound-clause-some g c =
    row_breaks c.args.row.now.row.table _ _ c.loop-c.c c.loop-c.invariant.some

pub returns-in_err-put_value-clause-some : goal.returns-in_err-put_value-clause-some
returns-in_err-put_value-clause-some g c =
    let r = err_from_is_err_and c.from_residual-in_err-put_value.result c.from_residual-in_err-put_value.ensures.1 in
    rw r.1
    (row_stops c.args.row.now.row.table _ _ _ c.loop-c.c c.loop-c.invariant.some c.in_err-put_value.ensures.some)

pub returns-in_err-end-clause-some : goal.returns-in_err-end-clause-some
returns-in_err-end-clause-some g c =
    let r = err_from_is_err_and c.from_residual-in_err-end.result c.from_residual-in_err-end.ensures.1 in
    rw r.1
    (row_stops c.args.row.now.row.table _ _ _ c.loop-c.c c.loop-c.invariant.some
    (part_grows _ _ _ c.in_err-end.ensures.failed))

pub returns-clause-some : goal.returns-clause-some
returns-clause-some g c =
    let table = c.args.row.now.row.table in
    let last : c.loop-c.c ≡ length table.columns =
    omega (
      arith,
      column_count (ap (λ (on : RowOnLeaf). on.row) c.row.view_is) c.columns-c-end.ensures.same,
      c.loop-c-test.false,
      c.loop-c.auto.c-end,
    ) in
    row_closes table (g.O.ByteSink.written c.args.sink.now) (g.O.ByteSink.written c.loop-c.sink)
    (g.O.ByteSink.written c.end.new.sink) c.loop-c.c c.loop-c.invariant.some last c.in_ok-end.ensures.ok

pub loop-c-init : goal.loop-c-init
loop-c-init g c =
    let row = c.args.row.now.row in
    let grown = rw (ap (λ (on : RowOnLeaf). on.row.table) c.row.view_is) at c.in_ok-writer.ensures.puts.ok in
    record {
      same = refl;
      source_later = omega arith;
      asked = omega arith;
      sink_later = c.in_ok-writer.ensures.puts.cause.later;
      cost = refl;
      fewer = omega arith;
      came = ap (λ (w : Writer). w.came) c.in_ok-writer.ensures.fresh;
      some = row_begins row.table (g.O.ByteSink.written c.args.sink.now) (g.O.ByteSink.written c.begin.new.sink) grown;
      near = λ _. refl;
      used = if_told (g.S.PageSource.content c.args.source.now) (λ file. omega (arith, pages_none file row));
      text = if_told (g.S.PageSource.content c.args.source.now)
          (λ file row_values reads. line_begins row.table row_values (g.O.ByteSink.written c.args.sink.now)
          (g.O.ByteSink.written c.begin.new.sink) grown);
    }

pub cell-cell-requires : goal.cell-cell-requires
cell-cell-requires g c =
    omega (
      arith,
      column_count (ap (λ (on : RowOnLeaf). on.row) c.row.view_is) c.columns-c-end.ensures.same,
      c.loop-c-test.true,
    )

pub returns-then-not-is_sound-clause-puts : goal.returns-then-not-is_sound-clause-puts
returns-then-not-is_sound-clause-puts g c =
    let row = c.args.row.now.row in
    let within : c.loop-c.c < length row.table.columns =
    omega (
      arith,
      column_count (ap (λ (on : RowOnLeaf). on.row) c.row.view_is) c.columns-c-end.ensures.same,
      c.loop-c-test.true,
    ) in
    if_told (g.S.PageSource.content c.args.source.now)
    (λ file row_values reads. absurd (false≢true (c.if-not-is_sound.ensures.1 (sound_value file c.cell-cell.result _
    (cell_reads file row c.loop-c.c c.cell-cell.result row_values c.cell-cell.ensures within reads)))))

pub put_value-requires-clause-told : goal.put_value-requires-clause-told
put_value-requires-clause-told g c =
    let i = c.loop-c.invariant in
    let row = c.args.row.now.row in
    let within : c.loop-c.c < length row.table.columns =
    omega (
      arith,
      column_count (ap (λ (on : RowOnLeaf). on.row) c.row.view_is) c.columns-c-end.ensures.same,
      c.loop-c-test.true,
    ) in
    rw i.same
    (map_told2 (g.S.PageSource.content c.args.source.now)
    (λ file can used.
    let pages = pages_within file row c.loop-c.c (length row.table.columns) within in
    let here = cell_pages file row c.loop-c.c c.cell-cell.result c.cell-cell.ensures in
    record {
      value = get_or can.row_values c.loop-c.c Null;
      reads = cell_reads file row c.loop-c.c c.cell-cell.result can.row_values c.cell-cell.ensures within can.reads;
      few = omega (arith, pages, used, can.few, here);
    })
    c.requires.told i.used)

pub returns-in_err-put_value-clause-puts : goal.returns-in_err-put_value-clause-puts
returns-in_err-put_value-clause-puts g c =
    let i = c.loop-c.invariant in
    let row = c.args.row.now.row in
    let cell = c.cell-cell.result in
    let within : c.loop-c.c < length row.table.columns =
    omega (
      arith,
      column_count (ap (λ (on : RowOnLeaf). on.row) c.row.view_is) c.columns-c-end.ensures.same,
      c.loop-c-test.true,
    ) in
    let puts = rw i.same at c.in_err-put_value.ensures.puts in
    let r = err_from_is_err_and c.from_residual-in_err-put_value.result c.from_residual-in_err-put_value.ensures.1 in
    rw (r.1, r.2)
    (map_told2 (g.S.PageSource.content c.args.source.now)
    (λ file text puts row_values reads. line_ends row.table row_values c.loop-c.c c.loop-c.writer.came cell.kind
    (g.O.ByteSink.written c.args.sink.now) (g.O.ByteSink.written c.loop-c.sink) (g.O.ByteSink.written
    c.put_value.new.sink) c.in_err-put_value.field-0.0 reads.count within i.came
    (ap (λ (x : CellView). x.kind) c.cell-cell.ensures) (text row_values reads)
    (puts (get_or row_values c.loop-c.c Null)
    (cell_reads file row c.loop-c.c cell row_values c.cell-cell.ensures within reads)))
    i.text puts)

pub returns-in_err-put_value-clause-near : goal.returns-in_err-put_value-clause-near
returns-in_err-put_value-clause-near g c =
    let row = c.args.row.now.row in
    let within : c.loop-c.c < length row.table.columns =
    omega (
      arith,
      column_count (ap (λ (on : RowOnLeaf). on.row) c.row.view_is) c.columns-c-end.ensures.same,
      c.loop-c-test.true,
    ) in
    let table = subst (λ (on : RowOnLeaf). IsTable on.row.table) c.row.view_is c.columns-c-end.ensures.table in
    let placed = subst (λ (on : RowOnLeaf). HavePlaces on.row.table on.row.places) c.row.view_is
    c.row.invariant.placed in
    λ all. c.in_err-put_value.ensures.near (cell_near row c.loop-c.c c.cell-cell.result table placed
    c.cell-cell.ensures within all) ∙ c.loop-c.invariant.near all

pub loop-c-preserved : goal.loop-c-preserved
loop-c-preserved g c =
    let i = c.loop-c.invariant in
    let row = c.args.row.now.row in
    let cell = c.cell-cell.result in
    let within : c.loop-c.c < length row.table.columns =
    omega (
      arith,
      column_count (ap (λ (on : RowOnLeaf). on.row) c.row.view_is) c.columns-c-end.ensures.same,
      c.loop-c-test.true,
    ) in
    let table = subst (λ (on : RowOnLeaf). IsTable on.row.table) c.row.view_is c.columns-c-end.ensures.table in
    let placed = subst (λ (on : RowOnLeaf). HavePlaces on.row.table on.row.places) c.row.view_is
    c.row.invariant.placed in
    let puts = rw i.same at c.in_ok-put_value.ensures.puts in
    let left = rw i.same at c.in_ok-put_value.ensures.left in
    record {
      same = c.in_ok-put_value.ensures.over.same ∙ i.same;
      source_later = omega (arith, i.source_later, c.in_ok-put_value.ensures.over.source_later);
      asked = omega (arith, i.asked, c.in_ok-put_value.ensures.over.asked);
      sink_later = omega (arith, i.sink_later, c.in_ok-put_value.ensures.over.sink_later);
      cost = c.in_ok-put_value.ensures.cost ∙ i.cost;
      fewer = omega (arith, i.fewer, c.in_ok-put_value.ensures.fewer);
      came = omega (arith, c.in_ok-put_value.ensures.came, i.came);
      some = row_goes_on row.table (g.O.ByteSink.written c.args.sink.now) (g.O.ByteSink.written c.loop-c.sink)
          (g.O.ByteSink.written c.put_value.new.sink) c.loop-c.c c.loop-c.writer.came cell.kind i.some within i.came
          (ap (λ (x : CellView). x.kind) c.cell-cell.ensures) c.in_ok-put_value.ensures.some;
      near = λ all. c.in_ok-put_value.ensures.near (cell_near row c.loop-c.c cell table placed c.cell-cell.ensures
          within all) ∙ i.near all;
      used = map_told2 (g.S.PageSource.content c.args.source.now)
          (λ file used left. omega (
            arith,
            used,
            left,
            pages_more file row c.loop-c.c,
            cell_pages file row c.loop-c.c cell c.cell-cell.ensures,
          ))
          i.used left;
      text = map_told2 (g.S.PageSource.content c.args.source.now)
          (λ file text puts row_values reads. line_more row.table row_values c.loop-c.c c.loop-c.writer.came cell.kind
          (g.O.ByteSink.written c.args.sink.now) (g.O.ByteSink.written c.loop-c.sink) (g.O.ByteSink.written
          c.put_value.new.sink) i.came (ap (λ (x : CellView). x.kind) c.cell-cell.ensures) (text row_values reads)
          (puts (get_or row_values c.loop-c.c Null)
          (cell_reads file row c.loop-c.c cell row_values c.cell-cell.ensures within reads)))
          i.text puts;
    }

pub returns-in_err-end-clause-puts : goal.returns-in_err-end-clause-puts
returns-in_err-end-clause-puts g c =
    let i = c.loop-c.invariant in
    let table = c.args.row.now.row.table in
    let last : c.loop-c.c ≡ length table.columns =
    omega (
      arith,
      column_count (ap (λ (on : RowOnLeaf). on.row) c.row.view_is) c.columns-c-end.ensures.same,
      c.loop-c-test.false,
      c.loop-c.auto.c-end,
    ) in
    let r = err_from_is_err_and c.from_residual-in_err-end.result c.from_residual-in_err-end.ensures.1 in
    rw (r.1, r.2)
    (map_told (g.S.PageSource.content c.args.source.now)
    (λ file text row_values reads. close_cut table row_values c.loop-c.c (g.O.ByteSink.written c.args.sink.now)
    (g.O.ByteSink.written c.loop-c.sink)
    (g.O.ByteSink.written c.end.new.sink) reads.count last (text row_values reads) c.in_err-end.ensures.failed)
    i.text)

pub returns-clause-puts : goal.returns-clause-puts
returns-clause-puts g c =
    let i = c.loop-c.invariant in
    let table = c.args.row.now.row.table in
    let last : c.loop-c.c ≡ length table.columns =
    omega (
      arith,
      column_count (ap (λ (on : RowOnLeaf). on.row) c.row.view_is) c.columns-c-end.ensures.same,
      c.loop-c-test.false,
      c.loop-c.auto.c-end,
    ) in
    map_told (g.S.PageSource.content c.args.source.now)
    (λ file text row_values reads. line_closes table row_values c.loop-c.c (g.O.ByteSink.written c.args.sink.now)
    (g.O.ByteSink.written c.loop-c.sink)
    (g.O.ByteSink.written c.end.new.sink) reads.count last (text row_values reads) c.in_ok-end.ensures.ok)
    i.text

pub returns-in_err-put_value-clause-broken : goal.returns-in_err-put_value-clause-broken
returns-in_err-put_value-clause-broken g c =
    let row = c.args.row.now.row in
    let within : c.loop-c.c < length row.table.columns =
    omega (
      arith,
      column_count (ap (λ (on : RowOnLeaf). on.row) c.row.view_is) c.columns-c-end.ensures.same,
      c.loop-c-test.true,
    ) in
    let table = subst (λ (on : RowOnLeaf). IsTable on.row.table) c.row.view_is c.columns-c-end.ensures.table in
    let placed = subst (λ (on : RowOnLeaf). HavePlaces on.row.table on.row.places) c.row.view_is
    c.row.invariant.placed in
    let r = err_from_is_err_and c.from_residual-in_err-put_value.result c.from_residual-in_err-put_value.ensures.1 in
    rw (r.1, r.2)
    (λ fault is.
    let breaks = c.in_err-put_value.ensures.broken fault is in
    inr (
      breaks.0,
      λ all. false≢true (sym (cell_near row c.loop-c.c c.cell-cell.result table placed c.cell-cell.ensures within all)
          ∙ breaks.1),
    ))
