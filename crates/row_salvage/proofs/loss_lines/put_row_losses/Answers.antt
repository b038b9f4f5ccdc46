use Rattle.std.proofs.Common.{◌≡◌, ◌<◌, ℕ, List, ◌++◌, ◌∙◌, sym, ap, length, flat_map, subst, refl, arith, Err}
use Rattle.std.specs.List.{range_with_len}
use Rattle.page_source.specs.Calls.{Puts}
use Rattle.page_source.proofs.Texts.{HasPut, put_more, put_cut}
use Rattle.schema_text.specs.declared.table.Column.{Column}
use Rattle.salvage_model.specs.Losses.{value_line}
use Rattle.row_salvage.proofs.LossLines.{line_at, line_after, lines_lost, lines_more, lines_skip, lines_split}
use Rattle.row_salvage.proofs.LossLines.{lines_all}
use Rattle.row_salvage.proofs.loss_lines.put_row_losses.Goals as goal
use Rattle.row_salvage.proofs.loss_lines.put_row_losses.Goals.{in-Some+in_ok-put_value_loss, in_default}

pub returns-in_err-put_value_loss : goal.returns-in_err-put_value_loss
returns-in_err-put_value_loss g c =
    let table = c.args.schema.now in
    let losses = c.args.losses.now in
    let count = ap (length {A = Column}) c.columns-c-end.ensures.same in
    let within : c.loop-c.c < length table.columns = omega (arith, count, c.loop-c-test.true) in
    let line = lines_lost table c.args.n c.args.k losses c.items.result.now c.columns.result.now c.loop-c.c
    c.index-columns-c.result c.in-Some.loss c.columns.ensures.same c.items.ensures c.index-columns-c.is within
    c.in-Some.is in
    let before = flat_map (line_at table c.args.n c.args.k losses) (range_with_len 0 c.loop-c.c) in
    let rest = line_after table c.args.n c.args.k losses c.loop-c.c in
    let text = lines_split table c.args.n c.args.k losses c.loop-c.c c.requires within
    ∙ ap (λ (t : List ℕ). before ++ (t ++ rest)) line in
    subst (λ (t : List ℕ). Puts g.E.ByteSink c.args.err.now c.put_value_loss.new.err t c.from_residual.result)
    (sym text)
    (put_cut g.E.ByteSink c.args.err.now c.loop-c.err c.put_value_loss.new.err before
    (value_line c.args.n c.args.k c.index-columns-c.result c.in-Some.loss) rest
    (Err c.in_err-put_value_loss.field-0.0) c.in_err-put_value_loss.field-0.0 c.from_residual.result
    c.loop-c.invariant c.in_err-put_value_loss.ensures refl c.from_residual.ensures.0)

pub loop-c-preserved : goal.loop-c-preserved
loop-c-preserved g c =
    let table = c.args.schema.now in
    let losses = c.args.losses.now in
    let count = ap (length {A = Column}) c.columns-c-end.ensures.same in
    let within : c.loop-c.c < length table.columns = omega (arith, count, c.loop-c-test.true) in
    elim c.match-items-c.branch [
      | in-Some+in_ok-put_value_loss w ↦
          let line = lines_lost table c.args.n c.args.k losses c.items.result.now w.columns.result.now c.loop-c.c
          w.index-columns-c.result w.in-Some.loss w.columns.ensures.same c.items.ensures w.index-columns-c.is within
          w.in-Some.is in
          rw w.err-is
          (subst (λ (t : List ℕ). HasPut g.E.ByteSink c.args.err.now w.put_value_loss.new.err t)
          (lines_more table c.args.n c.args.k losses c.loop-c.c
          (value_line c.args.n c.args.k w.index-columns-c.result w.in-Some.loss) line)
          (put_more g.E.ByteSink c.args.err.now c.loop-c.err w.put_value_loss.new.err _ _ _
          w.in_ok-put_value_loss.field-0 c.loop-c.invariant w.in_ok-put_value_loss.ensures refl))
      | in_default w ↦
          rw w.err-is
          (subst (λ (t : List ℕ). HasPut g.E.ByteSink c.args.err.now c.loop-c.err t)
          (lines_skip table c.args.n c.args.k losses c.items.result.now c.loop-c.c c.items.ensures w.in_default.is)
          c.loop-c.invariant)
    ]

pub returns : goal.returns
returns g c =
    let table = c.args.schema.now in
    let losses = c.args.losses.now in
    let count = ap (length {A = Column}) c.columns-c-end.ensures.same in
    let last : c.loop-c.c ≡ length table.columns = omega (arith, count, c.loop-c-test.false, c.loop-c.auto.c-end) in
    let put = subst (λ (t : List ℕ). HasPut g.E.ByteSink c.args.err.now c.loop-c.err t)
    (lines_all table c.args.n c.args.k losses c.loop-c.c c.requires last) c.loop-c.invariant in
    record { ok = put.grown; failed = tt; cause = record { later = put.later; failed = tt } }
