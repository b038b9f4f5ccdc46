use Rattle.std.proofs.Common.{◌∙◌, refl, ap, arith}
use Rattle.std.proofs.lemmas.Result.{err_from_is_err_and}
use Rattle.page_source.proofs.Told.{map_told4}
use Rattle.sql_dump.specs.Cells.{RowOnLeaf}
use Rattle.table_salvage.proofs.RowSteps.{judged, row_read, met_put, met_cut, met_cut_long, long_here, line_ends}
use Rattle.table_salvage.proofs.RowSteps.{counted_whole, counted_partial, told6}
use Rattle.table_salvage.specs.Work.{work_of}
use Rattle.table_salvage.proofs.rows.save_row.Goals as goal

pub returns-then-is_whole-clause-goes : goal.returns-then-is_whole-clause-goes
returns-then-is_whole-clause-goes g c =
    let ready = c.requires.ready in
    let found = c.requires.found in
    let row_is = row_read c.args.found.origin c.row-row.ensures (c.in_ok-read.ensures.table ∙ ready.table)
    (rw ready.table at c.in_ok-read.ensures.read) in
    let moves = rw (c.check_columns-room.ensures.over.same) at c.in_ok-put_saved_row.ensures.moves in
    let table_is = ap (λ (r : RowOnLeaf). r.row.table) row_is in
    record {
      told = map_told4 (g.S.PageSource.content c.args.source.now)
          (λ file held under saves moves. λ start met.
          met_put c.in_ok-put_saved_row.ensures.over.source_later refl refl
          (counted_whole c.args.room.now.saved c.check_columns-room.new.losses c.if-is_whole.ensures)
          (rw table_is at (moves saves.row_values saves.saves))
          c.report_row.ensures.got
          (judged saves.row_values c.row-row.result c.args.room.now.page c.args.found.origin
          c.check_columns-room.ensures.over.later held found.record_of row_is saves.saves under met))
          c.requires.held.held c.check_columns-room.ensures.answers c.check_columns-room.ensures.saves moves;
    }

pub returns-else-is_whole-clause-goes : goal.returns-else-is_whole-clause-goes
returns-else-is_whole-clause-goes g c =
    let ready = c.requires.ready in
    let found = c.requires.found in
    let row_is = row_read c.args.found.origin c.row-row.ensures (c.in_ok-read.ensures.table ∙ ready.table)
    (rw ready.table at c.in_ok-read.ensures.read) in
    let moves = rw (c.check_columns-room.ensures.over.same) at c.in_ok-put_saved_row.ensures.moves in
    let table_is = ap (λ (r : RowOnLeaf). r.row.table) row_is in
    record {
      told = map_told4 (g.S.PageSource.content c.args.source.now)
          (λ file held under saves moves. λ start met.
          met_put c.in_ok-put_saved_row.ensures.over.source_later refl refl
          (counted_partial c.args.room.now.saved c.check_columns-room.new.losses c.if-is_whole.ensures)
          (rw table_is at (moves saves.row_values saves.saves))
          c.report_row.ensures.got
          (judged saves.row_values c.row-row.result c.args.room.now.page c.args.found.origin
          c.check_columns-room.ensures.over.later held found.record_of row_is saves.saves under met))
          c.requires.held.held c.check_columns-room.ensures.answers c.check_columns-room.ensures.saves moves;
    }

pub returns-in_err-put_saved_row-clause-goes : goal.returns-in_err-put_saved_row-clause-goes
returns-in_err-put_saved_row-clause-goes g c =
    let ready = c.requires.ready in
    let found = c.requires.found in
    let row_is = row_read c.args.found.origin c.row-row.ensures (c.in_ok-read.ensures.table ∙ ready.table)
    (rw ready.table at c.in_ok-read.ensures.read) in
    let moves = rw (c.check_columns-room.ensures.over.same) at c.in_err-put_saved_row.ensures.moves in
    let table_is = ap (λ (r : RowOnLeaf). r.row.table) row_is in
    let r = err_from_is_err_and c.from_residual-in_err-put_saved_row.result
    c.from_residual-in_err-put_saved_row.ensures.1 in
    rw (r.1, r.2)
    (record {
      told = told6 (g.S.PageSource.content c.args.source.now)
          (λ file told held under saves count moves. λ start met.
          let row = judged saves.row_values c.row-row.result c.args.room.now.page c.args.found.origin
          c.check_columns-room.ensures.over.later held found.record_of row_is saves.saves under met in
          line_ends _ _ _ _ _ _ _ _ c.in_err-put_saved_row.field-0.0
          (rw table_is at (moves saves.row_values saves.saves))
          (λ cut.
          met_cut c.in_err-put_saved_row.ensures.over.source_later refl (omega (arith, told, c.requires.held.below)) cut
          c.report_row.ensures.got row)
          (λ source cut.
          met_cut_long (long_here (work_of file c.args.search.now) _ _ _ c.row-row.result c.args.room.now.page
          c.args.found.origin held found.record_of
          row_is count (c.in_err-put_saved_row.ensures.source source))
          c.in_err-put_saved_row.ensures.over.source_later refl (omega (arith, told, c.requires.held.below)) cut
          c.report_row.ensures.got row))
          ready.look.told c.requires.held.held c.check_columns-room.ensures.answers
          c.check_columns-room.ensures.saves c.check_columns-room.ensures.count moves;
    })
