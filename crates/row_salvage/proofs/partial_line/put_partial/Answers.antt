use Rattle.std.proofs.Common.{◌≡◌, ◌<◌, true, false, length, get_or, refl, ap, sym, ◌∙◌, subst, inr, List, Option}
use Rattle.std.proofs.Common.{Some, None, is_some, arith}
use Rattle.std.proofs.lemmas.Bool.{false≢true}
use Rattle.std.proofs.lemmas.Result.{err_from_is_err_and}
use Rattle.page_source.proofs.Told.{if_told, map_told, map_told2}
use Rattle.schema_text.specs.TableDef.{column_at}
use Rattle.schema_text.specs.Grammar.{IsTable}
use Rattle.row_text.specs.Writer.{Writer}
use Rattle.sql_dump.specs.declared.stop.WriteStop.TheVariants.{Sink}
use Rattle.sql_dump.specs.Cells.{RowOnLeaf, CellView, HavePlaces}
use Rattle.sql_dump.proofs.Cells.{cell_near, column_count, sound_value}
use Rattle.salvage_model.specs.declared.loss.Loss.{Loss}
use Rattle.row_salvage.proofs.PartialLine.{is_partial, open_cut, begin_cut, partial_begins, partial_more, partial_ends}
use Rattle.row_salvage.proofs.PartialLine.{partial_closes, close_cut, first_none, first_more, first_within, first_all}
use Rattle.row_salvage.proofs.PartialLine.{kept_lost, kept_whole, value_lost, value_whole}
use Rattle.row_salvage.proofs.partial_line.put_partial.Goals as goal

pub returns-in_err-put-clause-puts : goal.returns-in_err-put-clause-puts
returns-in_err-put-clause-puts g c =
    let row = c.args.row.now.row in
    let r = err_from_is_err_and c.from_residual.result c.from_residual.ensures.1 in
    rw (r.1, r.2)
    (if_told (g.S.PageSource.content c.args.source.now)
    (λ file row_values saves. open_cut row.table row_values (g.O.ByteSink.written c.args.sink.now)
    (g.O.ByteSink.written c.put.new.self)
    (is_partial file row c.args.losses.now row_values c.requires.all c.requires.some saves)
    c.in_err-put.ensures.failed))

pub returns-in_err-writer-clause-puts : goal.returns-in_err-writer-clause-puts
returns-in_err-writer-clause-puts g c =
    let row = c.args.row.now.row in
    let part = rw (ap (λ (on : RowOnLeaf). on.row.table) c.row.view_is) at c.in_err-writer.ensures.puts.failed in
    let r = err_from_is_err_and c.from_residual-in_err-writer.result c.from_residual-in_err-writer.ensures.1 in
    rw (r.1, r.2)
    (if_told (g.S.PageSource.content c.args.source.now)
    (λ file row_values saves. begin_cut row.table row_values (g.O.ByteSink.written c.args.sink.now)
    (g.O.ByteSink.written c.put.new.self) (g.O.ByteSink.written c.begin.new.sink)
    (is_partial file row c.args.losses.now row_values c.requires.all c.requires.some saves)
    c.in_ok-put.ensures.ok part))

pub loop-c-init : goal.loop-c-init
loop-c-init g c =
    let row = c.args.row.now.row in
    let grown = rw (ap (λ (on : RowOnLeaf). on.row.table) c.row.view_is) at c.in_ok-writer.ensures.puts.ok in
    record {
      same = refl;
      source_later = omega arith;
      asked = omega arith;
      sink_later = omega (arith, c.put.ensures.cause.later, c.in_ok-writer.ensures.puts.cause.later);
      cost = refl;
      fewer = omega arith;
      came = ap (λ (w : Writer). w.came) c.in_ok-writer.ensures.fresh;
      used = if_told (g.S.PageSource.content c.args.source.now)
          (λ file. omega (arith, first_none file row c.args.losses.now));
      text = if_told (g.S.PageSource.content c.args.source.now)
          (λ file row_values saves. partial_begins row.table row_values (g.O.ByteSink.written c.args.sink.now)
          (g.O.ByteSink.written c.put.new.self) (g.O.ByteSink.written c.begin.new.sink) c.in_ok-put.ensures.ok grown);
    }

pub returns-in_err-default-clause-puts : goal.returns-in_err-default-clause-puts
returns-in_err-default-clause-puts g c =
    let i = c.loop-c.invariant in
    let row = c.args.row.now.row in
    let losses = c.args.losses.now in
    let within : c.loop-c.c < length row.table.columns =
    omega (
      arith,
      column_count (ap (λ (on : RowOnLeaf). on.row) c.row.view_is) c.columns-c-end.ensures.same,
      c.loop-c-test.true,
    ) in
    let lost : is_some (get_or losses c.loop-c.c None) ≡ true =
    ap (λ (xs : List (Option Loss)). is_some (get_or xs c.loop-c.c None)) (sym c.items.ensures)
    ∙ sym c.is_some.ensures ∙ c.if-is_some.true in
    let r = err_from_is_err_and c.from_residual-in_err-default.result c.from_residual-in_err-default.ensures.1 in
    rw (r.1, r.2)
    (map_told (g.S.PageSource.content c.args.source.now)
    (λ file text row_values saves. partial_ends row.table row_values c.loop-c.c c.loop-c.writer.came
    (column_at row.table c.loop-c.c).kind None (g.O.ByteSink.written c.args.sink.now)
    (g.O.ByteSink.written c.loop-c.sink) (g.O.ByteSink.written c.default.new.sink) Sink
    (is_partial file row losses row_values c.requires.all c.requires.some saves) within i.came refl
    (value_lost file row losses row_values c.loop-c.c saves within lost) (text row_values saves)
    c.in_err-default.ensures.puts.failed)
    i.text)

pub loop-c-preserved-then-is_some : goal.loop-c-preserved-then-is_some
loop-c-preserved-then-is_some g c =
    let i = c.loop-c.invariant in
    let row = c.args.row.now.row in
    let losses = c.args.losses.now in
    let within : c.loop-c.c < length row.table.columns =
    omega (
      arith,
      column_count (ap (λ (on : RowOnLeaf). on.row) c.row.view_is) c.columns-c-end.ensures.same,
      c.loop-c-test.true,
    ) in
    let lost : is_some (get_or losses c.loop-c.c None) ≡ true =
    ap (λ (xs : List (Option Loss)). is_some (get_or xs c.loop-c.c None)) (sym c.items.ensures)
    ∙ sym c.is_some.ensures ∙ c.if-is_some.true in
    record {
      same = i.same;
      source_later = i.source_later;
      asked = i.asked;
      sink_later = omega (arith, i.sink_later, c.in_ok-default.ensures.puts.cause.later);
      cost = i.cost;
      fewer = i.fewer;
      came = omega (arith, ap (λ (w : Writer). w.came) c.in_ok-default.ensures.counts, i.came);
      used = map_told (g.S.PageSource.content c.args.source.now)
          (λ file used. omega (
            arith,
            used,
            first_more file row losses c.loop-c.c,
            kept_lost file row losses c.loop-c.c lost,
          ))
          i.used;
      text = map_told (g.S.PageSource.content c.args.source.now)
          (λ file text row_values saves. partial_more row.table row_values c.loop-c.c c.loop-c.writer.came
          (column_at row.table c.loop-c.c).kind None (g.O.ByteSink.written c.args.sink.now)
          (g.O.ByteSink.written c.loop-c.sink) (g.O.ByteSink.written c.default.new.sink) i.came refl
          (value_lost file row losses row_values c.loop-c.c saves within lost) (text row_values saves)
          c.in_ok-default.ensures.puts.ok)
          i.text;
    }

pub returns-then-not-is_sound-clause-puts : goal.returns-then-not-is_sound-clause-puts
returns-then-not-is_sound-clause-puts g c =
    let row = c.args.row.now.row in
    let losses = c.args.losses.now in
    let within : c.loop-c.c < length row.table.columns =
    omega (
      arith,
      column_count (ap (λ (on : RowOnLeaf). on.row) c.row.view_is) c.columns-c-end.ensures.same,
      c.loop-c-test.true,
    ) in
    let whole : is_some (get_or losses c.loop-c.c None) ≡ false =
    ap (λ (xs : List (Option Loss)). is_some (get_or xs c.loop-c.c None)) (sym c.items.ensures)
    ∙ sym c.is_some.ensures ∙ c.if-is_some.false in
    if_told (g.S.PageSource.content c.args.source.now)
    (λ file row_values saves.
    let read = value_whole file row losses row_values c.loop-c.c c.cell-cell.result saves within whole
    c.cell-cell.ensures in
    false≢true (c.if-not-is_sound.ensures.1 (sound_value file c.cell-cell.result read.value read.reads)))

pub put_value-requires-clause-told : goal.put_value-requires-clause-told
put_value-requires-clause-told g c =
    let i = c.loop-c.invariant in
    let row = c.args.row.now.row in
    let losses = c.args.losses.now in
    let within : c.loop-c.c < length row.table.columns =
    omega (
      arith,
      column_count (ap (λ (on : RowOnLeaf). on.row) c.row.view_is) c.columns-c-end.ensures.same,
      c.loop-c-test.true,
    ) in
    let whole : is_some (get_or losses c.loop-c.c None) ≡ false =
    ap (λ (xs : List (Option Loss)). is_some (get_or xs c.loop-c.c None)) (sym c.items.ensures)
    ∙ sym c.is_some.ensures ∙ c.if-is_some.false in
    rw i.same
    (map_told2 (g.S.PageSource.content c.args.source.now)
    (λ file can used.
    let read = value_whole file row losses can.row_values c.loop-c.c c.cell-cell.result can.saves within whole
    c.cell-cell.ensures in
    let pages = first_within file row losses c.loop-c.c within in
    let here = kept_whole file row losses c.loop-c.c c.cell-cell.result whole c.cell-cell.ensures in
    record { value = read.value; reads = read.reads; few = omega (arith, pages, used, can.few, here) })
    c.requires.told i.used)

pub returns-in_err-put_value-clause-puts : goal.returns-in_err-put_value-clause-puts
returns-in_err-put_value-clause-puts g c =
    let i = c.loop-c.invariant in
    let row = c.args.row.now.row in
    let losses = c.args.losses.now in
    let cell = c.cell-cell.result in
    let within : c.loop-c.c < length row.table.columns =
    omega (
      arith,
      column_count (ap (λ (on : RowOnLeaf). on.row) c.row.view_is) c.columns-c-end.ensures.same,
      c.loop-c-test.true,
    ) in
    let whole : is_some (get_or losses c.loop-c.c None) ≡ false =
    ap (λ (xs : List (Option Loss)). is_some (get_or xs c.loop-c.c None)) (sym c.items.ensures)
    ∙ sym c.is_some.ensures ∙ c.if-is_some.false in
    let puts = rw i.same at c.in_err-put_value.ensures.puts in
    let r = err_from_is_err_and c.from_residual-in_err-put_value.result c.from_residual-in_err-put_value.ensures.1 in
    rw (r.1, r.2)
    (map_told2 (g.S.PageSource.content c.args.source.now)
    (λ file text puts row_values saves.
    let read = value_whole file row losses row_values c.loop-c.c cell saves within whole c.cell-cell.ensures in
    partial_ends row.table row_values c.loop-c.c c.loop-c.writer.came cell.kind (Some read.value)
    (g.O.ByteSink.written c.args.sink.now) (g.O.ByteSink.written c.loop-c.sink)
    (g.O.ByteSink.written c.put_value.new.sink) c.in_err-put_value.field-0.0
    (is_partial file row losses row_values c.requires.all c.requires.some saves) within i.came
    (ap (λ (x : CellView). x.kind) c.cell-cell.ensures) read.is (text row_values saves) (puts read.value read.reads))
    i.text puts)

pub returns-in_err-put_value-clause-broken : goal.returns-in_err-put_value-clause-broken
returns-in_err-put_value-clause-broken g c =
    let row = c.args.row.now.row in
    let within : c.loop-c.c < length row.table.columns =
    omega (
      arith,
      column_count (ap (λ (on : RowOnLeaf). on.row) c.row.view_is) c.columns-c-end.ensures.same,
      c.loop-c-test.true,
    ) in
    let table = subst (λ (on : RowOnLeaf). IsTable on.row.table) c.row.view_is c.columns-c-end.ensures.table in
    let placed = subst (λ (on : RowOnLeaf). HavePlaces on.row.table on.row.places) c.row.view_is
    c.row.invariant.placed in
    let r = err_from_is_err_and c.from_residual-in_err-put_value.result c.from_residual-in_err-put_value.ensures.1 in
    rw (r.1, r.2)
    (λ fault is.
    let breaks = c.in_err-put_value.ensures.broken fault is in
    inr (
      breaks.0,
      λ all. false≢true (sym (cell_near row c.loop-c.c c.cell-cell.result table placed c.cell-cell.ensures within all)
          ∙ breaks.1),
    ))

pub loop-c-preserved : goal.loop-c-preserved
loop-c-preserved g c =
    let i = c.loop-c.invariant in
    let row = c.args.row.now.row in
    let losses = c.args.losses.now in
    let cell = c.cell-cell.result in
    let within : c.loop-c.c < length row.table.columns =
    omega (
      arith,
      column_count (ap (λ (on : RowOnLeaf). on.row) c.row.view_is) c.columns-c-end.ensures.same,
      c.loop-c-test.true,
    ) in
    let whole : is_some (get_or losses c.loop-c.c None) ≡ false =
    ap (λ (xs : List (Option Loss)). is_some (get_or xs c.loop-c.c None)) (sym c.items.ensures)
    ∙ sym c.is_some.ensures ∙ c.if-is_some.false in
    let puts = rw i.same at c.in_ok-put_value.ensures.puts in
    let left = rw i.same at c.in_ok-put_value.ensures.left in
    record {
      same = c.in_ok-put_value.ensures.over.same ∙ i.same;
      source_later = omega (arith, i.source_later, c.in_ok-put_value.ensures.over.source_later);
      asked = omega (arith, i.asked, c.in_ok-put_value.ensures.over.asked);
      sink_later = omega (arith, i.sink_later, c.in_ok-put_value.ensures.over.sink_later);
      cost = c.in_ok-put_value.ensures.cost ∙ i.cost;
      fewer = omega (arith, i.fewer, c.in_ok-put_value.ensures.fewer);
      came = omega (arith, c.in_ok-put_value.ensures.came, i.came);
      used = map_told2 (g.S.PageSource.content c.args.source.now)
          (λ file used left. omega (
            arith,
            used,
            left,
            first_more file row losses c.loop-c.c,
            kept_whole file row losses c.loop-c.c cell whole c.cell-cell.ensures,
          ))
          i.used left;
      text = map_told2 (g.S.PageSource.content c.args.source.now)
          (λ file text puts row_values saves.
          let read = value_whole file row losses row_values c.loop-c.c cell saves within whole c.cell-cell.ensures in
          partial_more row.table row_values c.loop-c.c c.loop-c.writer.came cell.kind (Some read.value)
          (g.O.ByteSink.written c.args.sink.now) (g.O.ByteSink.written c.loop-c.sink)
          (g.O.ByteSink.written c.put_value.new.sink) i.came (ap (λ (x : CellView). x.kind) c.cell-cell.ensures) read.is
          (text row_values saves) (puts read.value read.reads))
          i.text puts;
    }

pub returns-in_err-end-clause-puts : goal.returns-in_err-end-clause-puts
returns-in_err-end-clause-puts g c =
    let i = c.loop-c.invariant in
    let row = c.args.row.now.row in
    let losses = c.args.losses.now in
    let last : c.loop-c.c ≡ length row.table.columns =
    omega (
      arith,
      column_count (ap (λ (on : RowOnLeaf). on.row) c.row.view_is) c.columns-c-end.ensures.same,
      c.loop-c-test.false,
      c.loop-c.auto.c-end,
    ) in
    let r = err_from_is_err_and c.from_residual-in_err-end.result c.from_residual-in_err-end.ensures.1 in
    rw (r.1, r.2)
    (map_told (g.S.PageSource.content c.args.source.now)
    (λ file text row_values saves. close_cut row.table row_values c.loop-c.c (g.O.ByteSink.written c.args.sink.now)
    (g.O.ByteSink.written c.loop-c.sink) (g.O.ByteSink.written c.end.new.sink)
    (is_partial file row losses row_values c.requires.all c.requires.some saves) last (text row_values saves)
    c.in_err-end.ensures.failed)
    i.text)

pub returns-clause-puts : goal.returns-clause-puts
returns-clause-puts g c =
    let i = c.loop-c.invariant in
    let row = c.args.row.now.row in
    let losses = c.args.losses.now in
    let last : c.loop-c.c ≡ length row.table.columns =
    omega (
      arith,
      column_count (ap (λ (on : RowOnLeaf). on.row) c.row.view_is) c.columns-c-end.ensures.same,
      c.loop-c-test.false,
      c.loop-c.auto.c-end,
    ) in
    map_told (g.S.PageSource.content c.args.source.now)
    (λ file text row_values saves. partial_closes row.table row_values c.loop-c.c
    (g.O.ByteSink.written c.args.sink.now) (g.O.ByteSink.written c.loop-c.sink) (g.O.ByteSink.written c.end.new.sink)
    (is_partial file row losses row_values c.requires.all c.requires.some saves) last (text row_values saves)
    c.in_ok-end.ensures.ok)
    i.text

pub returns-clause-left : goal.returns-clause-left
returns-clause-left g c =
    let i = c.loop-c.invariant in
    let row = c.args.row.now.row in
    let losses = c.args.losses.now in
    let last : c.loop-c.c ≡ length row.table.columns =
    omega (
      arith,
      column_count (ap (λ (on : RowOnLeaf). on.row) c.row.view_is) c.columns-c-end.ensures.same,
      c.loop-c-test.false,
      c.loop-c.auto.c-end,
    ) in
    map_told (g.S.PageSource.content c.args.source.now)
    (λ file used. omega (arith, used, ap length (first_all file row losses c.loop-c.c last))) i.used
