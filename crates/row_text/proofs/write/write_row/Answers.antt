use Rattle.std.proofs.Common.{◌≡◌, ◌+◌, ◌-◌, ℕ, List, [], ◌++◌, length, subst, sym, ap, ◌∙◌, arith}
use Rattle.std.proofs.lemmas.List.Elements.{All-get_or}
use Rattle.page_source.specs.Calls.{Puts}
use Rattle.row_text.specs.Line.{line_of}
use Rattle.row_text.specs.Values.{value_text}
use Rattle.row_text.specs.Writer.{line_open, line_close, before_value}
use Rattle.row_text.specs.Laws.{line_up_to}
use Rattle.page_source.proofs.Texts.{HasPut, put_none, put_more, put_last, put_cut}
use Rattle.row_text.proofs.OneLine.{IsKnown}
use Rattle.row_text.proofs.Reading.{row_size}
use Rattle.row_text.proofs.Lines.{line_opens, line_goes_on, line_closes}
use Rattle.row_text.proofs.WholeRow.{rest_from, rest_behind, pair_at, pair_fits, pair_text}
use Rattle.row_text.proofs.write.write_row.Goals as goal

pub returns-in_err-put_open : goal.returns-in_err-put_open
returns-in_err-put_open g c =
    let s = g.O.ByteSink in
    let table = c.args.schema.now in
    let row = c.args.row.now in
    let more = rest_from table row (length row) 0 c.requires (omega arith) in
    let whole : line_of table row ≡ line_open table ++ more.rest =
    more.whole ∙ ap (λ (t : List ℕ). t ++ more.rest) (line_opens table row) in
    subst (λ (t : List ℕ). Puts s c.args.sink.now c.put_open.new.sink t c.from_residual.result) (sym whole)
    (put_cut s c.args.sink.now c.args.sink.now c.put_open.new.sink [] (line_open table) more.rest c.put_open.result _
    c.from_residual.result (put_none s c.args.sink.now) c.put_open.ensures c.in_err-put_open.was
    c.from_residual.ensures.0)

pub loop-came-init : goal.loop-came-init
loop-came-init g c =
    let s = g.O.ByteSink in
    let table = c.args.schema.now in
    subst (λ (t : List ℕ). HasPut s c.args.sink.now c.put_open.new.sink t) (sym (line_opens table c.args.row.now))
    (put_more s c.args.sink.now c.args.sink.now c.put_open.new.sink [] (line_open table) c.put_open.result
    c.in_ok-put_open.field-0 (put_none s c.args.sink.now) c.put_open.ensures c.in_ok-put_open.was)

pub bounds-columns-came : goal.bounds-columns-came
bounds-columns-came g c =
    let size = row_size c.args.schema.now.columns c.args.row.now c.requires in
    omega (
      arith,
      c.loop-came-test.true,
      size,
      ap length c.values-values.ensures,
      ap length c.columns-columns.ensures.same,
    )

pub put_next-requires-clause-known : goal.put_next-requires-clause-known
put_next-requires-clause-known g c =
    let table = c.args.schema.now in
    let is = pair_at table c.args.row.now c.values-values.result.now c.columns-columns.result.now c.loop-came.came
    c.index-columns-came.result c.index-values-came.result c.requires c.columns-columns.ensures.same
    c.values-values.ensures
    c.loop-came-test.true c.index-columns-came.is c.index-values-came.is in
    subst IsKnown (sym is.column_is) (All-get_or IsKnown table.columns c.loop-came.came _ is.within
    c.columns-columns.ensures.table.kinds)

pub put_next-requires-clause-fits : goal.put_next-requires-clause-fits
put_next-requires-clause-fits g c =
    let table = c.args.schema.now in
    let is = pair_at table c.args.row.now c.values-values.result.now c.columns-columns.result.now c.loop-came.came
    c.index-columns-came.result c.index-values-came.result c.requires c.columns-columns.ensures.same
    c.values-values.ensures
    c.loop-came-test.true c.index-columns-came.is c.index-values-came.is in
    pair_fits table c.args.row.now c.loop-came.came c.index-columns-came.result c.index-values-came.result c.requires is

pub returns-in_err-put_next : goal.returns-in_err-put_next
returns-in_err-put_next g c =
    let s = g.O.ByteSink in
    let table = c.args.schema.now in
    let row = c.args.row.now in
    let k = c.loop-came.came in
    let is = pair_at table row c.values-values.result.now c.columns-columns.result.now k
    c.index-columns-came.result c.index-values-came.result c.requires c.columns-columns.ensures.same
    c.values-values.ensures
    c.loop-came-test.true c.index-columns-came.is c.index-values-came.is in
    let piece : List ℕ = before_value k ++ value_text c.index-columns-came.result.kind c.index-values-came.result in
    let long : length c.values-values.result.now ≡ length row = ap length c.values-values.ensures in
    let more = rest_behind table row k (length row - (k + 1)) c.requires (omega (arith, long, c.loop-came-test.true)) in
    let whole : line_of table row ≡ line_up_to table row k ++ (piece ++ more.rest) =
    more.whole ∙ ap (λ (t : List ℕ). line_up_to table row k ++ ((before_value k ++ t) ++ more.rest))
    (sym (pair_text table row k c.index-columns-came.result c.index-values-came.result is)) in
    subst (λ (t : List ℕ). Puts s c.args.sink.now c.put_next.new.sink t c.from_residual-in_err-put_next.result)
    (sym whole)
    (put_cut s c.args.sink.now c.loop-came.sink c.put_next.new.sink (line_up_to table row k) piece more.rest
    c.put_next.result _ c.from_residual-in_err-put_next.result c.loop-came.invariant c.put_next.ensures
    c.in_err-put_next.was c.from_residual-in_err-put_next.ensures.0)

pub loop-came-preserved : goal.loop-came-preserved
loop-came-preserved g c =
    let s = g.O.ByteSink in
    let table = c.args.schema.now in
    let row = c.args.row.now in
    let k = c.loop-came.came in
    let is = pair_at table row c.values-values.result.now c.columns-columns.result.now k
    c.index-columns-came.result c.index-values-came.result c.requires c.columns-columns.ensures.same
    c.values-values.ensures
    c.loop-came-test.true c.index-columns-came.is c.index-values-came.is in
    let piece : List ℕ = before_value k ++ value_text c.index-columns-came.result.kind c.index-values-came.result in
    let long : length c.values-values.result.now ≡ length row = ap length c.values-values.ensures in
    let step : line_up_to table row (k + 1) ≡ line_up_to table row k ++ piece =
    line_goes_on table row k c.requires (omega (arith, long, c.loop-came-test.true))
    ∙ ap (λ (t : List ℕ). line_up_to table row k ++ (before_value k ++ t))
    (sym (pair_text table row k c.index-columns-came.result c.index-values-came.result is)) in
    subst (λ (t : List ℕ). HasPut s c.args.sink.now c.put_next.new.sink t) (sym step)
    (put_more s c.args.sink.now c.loop-came.sink c.put_next.new.sink (line_up_to table row k) piece c.put_next.result
    c.in_ok-put_next.field-0 c.loop-came.invariant c.put_next.ensures c.in_ok-put_next.was)

pub returns : goal.returns
returns g c =
    let s = g.O.ByteSink in
    let table = c.args.schema.now in
    let row = c.args.row.now in
    let long : length c.values-values.result.now ≡ length row = ap length c.values-values.ensures in
    let all : c.loop-came.came ≡ length row = omega (arith, long, c.loop-came-test.false) in
    let whole : line_up_to table row c.loop-came.came ++ line_close ≡ line_of table row =
    ap (λ (k : ℕ). line_up_to table row k ++ line_close) all ∙ line_closes table row c.requires in
    subst (λ (t : List ℕ). Puts s c.args.sink.now c.put_pieces.new.sink t c.put_pieces.result) whole
    (put_last s c.args.sink.now c.loop-came.sink c.put_pieces.new.sink
    (line_up_to table row c.loop-came.came) line_close
    c.put_pieces.result c.loop-came.invariant c.put_pieces.ensures)
