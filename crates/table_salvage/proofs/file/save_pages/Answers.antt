use Rattle.std.proofs.Common.{◌≡◌, false, refl, sym, arith}
use Rattle.std.proofs.lemmas.Bool.{MatchBool-at_true, MatchBool-at_false}
use Rattle.std.proofs.lemmas.Result.{err_from_is_err_and}
use Rattle.page_source.proofs.Told.{if_told, map_told2, map_told3}
use Rattle.table_check.proofs.Progress.{unmarked_most}
use Rattle.leaf_salvage.specs.Standing.{reach_of}
use Rattle.table_salvage.specs.Work.{wanted_of}
use Rattle.table_salvage.proofs.RowSteps.{of_ok, of_err}
use Rattle.table_salvage.proofs.PartSteps.{over_none, over_then, goes_then}
use Rattle.table_salvage.proofs.SalvageEnds.{begins, has_begun, page_stops, flush_breaks}
use Rattle.table_salvage.proofs.SalvageEnds.{report_stops, numbers_stop, all_saved, failed_since}
use Rattle.table_salvage.proofs.SalvageEnds.{over_stops, over_unsent, over_unreported, over_saved}
use Rattle.table_salvage.proofs.file.save_pages.Goals as goal

pub loop-n-init : goal.loop-n-init
loop-n-init g c =
    let new = c.requires.new in
    record {
      ready = c.requires.ready;
      few = rw new.saved (record { rows_most = omega arith; leaves_most = omega arith; lost_most = omega arith });
      paid = omega arith;
      over = rw new.heard (over_none g.S.PageSource g.O.ByteSink g.E.ByteSink _ false _);
      goes = record { told = if_told (g.S.PageSource.content c.args.source.now) (λ file. λ start met. met) };
    }

pub loop-n-preserved : goal.loop-n-preserved
loop-n-preserved g c =
    let i = c.loop-n.invariant in
    let e = c.in_ok-save_page.ensures in
    record {
      ready = e.ready;
      few = e.few;
      paid = omega (arith, i.paid, e.paid);
      over = over_then g.S.PageSource g.O.ByteSink g.E.ByteSink i.over e.over;
      goes = goes_then g.S.PageSource g.O.ByteSink g.E.ByteSink _ _ _ i.over.same i.goes e.goes;
    }

pub returns-in_err-save_page-clause-told : goal.returns-in_err-save_page-clause-told
returns-in_err-save_page-clause-told g c =
    let i = c.loop-n.invariant in
    let new = c.requires.new in
    let r = err_from_is_err_and c.from_residual.result c.from_residual.ensures.1 in
    let over = over_then g.S.PageSource g.O.ByteSink g.E.ByteSink i.over c.in_err-save_page.ensures.over in
    let goes = goes_then g.S.PageSource g.O.ByteSink g.E.ByteSink _ _ _ i.over.same i.goes
    c.in_err-save_page.ensures.goes in
    rw (r.1, r.2)
    (map_told2 (g.S.PageSource.content c.args.source.now)
    (λ file found goes. λ before least.
    page_stops file c.args.search.now.id (wanted_of c.args.search.now c.args.wish.index) _ _ _ c.args.wish.heeds _ _ _ _
    c.in_err-save_page.field-0.0 (over.losses_rose refl) found
    (goes _ (begins c.args.search.now.pages new.knows least new.marks new.held new.saved new.heard refl)))
    c.requires.found goes.told)

pub returns-in_err-save_page-clause-over : goal.returns-in_err-save_page-clause-over
returns-in_err-save_page-clause-over g c =
    let i = c.loop-n.invariant in
    let r = err_from_is_err_and c.from_residual.result c.from_residual.ensures.1 in
    rw (r.1, r.2)
    (over_stops g.S.PageSource g.O.ByteSink g.E.ByteSink c.in_err-save_page.field-0.0
    (over_then g.S.PageSource g.O.ByteSink g.E.ByteSink i.over c.in_err-save_page.ensures.over))

pub returns-in_err-save_page-clause-cost : goal.returns-in_err-save_page-clause-cost
returns-in_err-save_page-clause-cost g c =
    omega (
      arith,
      c.loop-n.invariant.paid,
      c.in_err-save_page.ensures.paid,
      c.requires.ready.look.members,
      unmarked_most c.args.room.now.marks,
      c.loop-n-test.true,
    )

pub returns-then-is_err-clause-told : goal.returns-then-is_err-clause-told
returns-then-is_err-clause-told g c =
    let i = c.loop-n.invariant in
    let new = c.requires.new in
    map_told2 (g.S.PageSource.content c.args.source.now)
    (λ file found goes. λ before least.
    has_begun c.args.wish.heeds _ _ (i.over.losses_rose refl) found (flush_breaks
    (record { sink = g.O.ByteSink.written c.flush.new.sink; losses = g.E.ByteSink.written c.loop-n.losses })
    (of_err c.flush.result (sym c.if-is_err.ensures.value) c.flush.ensures.puts.failed) refl
    (goes _ (begins c.args.search.now.pages new.knows least new.marks new.held new.saved new.heard refl))))
    c.requires.found i.goes.told

pub returns-then-is_err-clause-over : goal.returns-then-is_err-clause-over
returns-then-is_err-clause-over g c =
    over_unsent g.S.PageSource g.O.ByteSink g.E.ByteSink c.flush.new.sink c.loop-n.invariant.over
    c.flush.ensures.puts.cause.later
    (of_err c.flush.result (sym c.if-is_err.ensures.value) c.flush.ensures.puts.cause.failed)

pub returns-then-ends-clause-told : goal.returns-then-ends-clause-told
returns-then-ends-clause-told g c =
    let i = c.loop-n.invariant in
    let new = c.requires.new in
    let ends = MatchBool-at_true _ _ c.if-ends.true c.ends.ensures in
    let goes = goes_then g.S.PageSource g.O.ByteSink g.E.ByteSink _ _ _ i.over.same i.goes
    c.in_ok-save_page.ensures.goes in
    map_told2 (g.S.PageSource.content c.args.source.now)
    (λ file found goes. λ before least.
    report_stops c.args.wish.heeds _ _ ends.0 found
    (goes _ (begins c.args.search.now.pages new.knows least new.marks new.held new.saved new.heard refl)))
    c.requires.found goes.told

pub returns-then-ends-clause-over : goal.returns-then-ends-clause-over
returns-then-ends-clause-over g c =
    let ends = MatchBool-at_true _ _ c.if-ends.true c.ends.ensures in
    let over = over_then g.S.PageSource g.O.ByteSink g.E.ByteSink c.loop-n.invariant.over
    c.in_ok-save_page.ensures.over in
    over_unreported g.S.PageSource g.O.ByteSink g.E.ByteSink _ _ over (omega arith) (omega arith)
    (over.losses_rose refl ends.1)

pub returns-then-ends-2-clause-told : goal.returns-then-ends-2-clause-told
returns-then-ends-2-clause-told g c =
    let i = c.loop-n.invariant in
    let new = c.requires.new in
    let ends = MatchBool-at_true _ _ c.if-ends-2.true c.ends-2.ensures in
    map_told2 (g.S.PageSource.content c.args.source.now)
    (λ file found goes. λ before least. numbers_stop
    (record { sink = g.O.ByteSink.written c.flush.new.sink; losses = g.E.ByteSink.written c.report_numbers.new.losses })
    c.args.wish.heeds c.report_numbers.new.failed (g.E.ByteSink.faults c.args.losses.now)
    (g.E.ByteSink.faults c.report_numbers.new.losses)
    (goes _ (begins c.args.search.now.pages new.knows least new.marks new.held new.saved new.heard refl)) ends.0
    found
    (of_ok c.flush.result (sym c.if-is_err.ensures.value) c.flush.ensures.puts.ok) c.report_numbers.ensures.got)
    c.requires.found i.goes.told

pub returns-then-ends-2-clause-over : goal.returns-then-ends-2-clause-over
returns-then-ends-2-clause-over g c =
    let ends = MatchBool-at_true _ _ c.if-ends-2.true c.ends-2.ensures in
    let i = c.loop-n.invariant in
    let e = c.report_numbers.ensures in
    over_unreported g.S.PageSource g.O.ByteSink g.E.ByteSink c.flush.new.sink c.report_numbers.new.losses i.over
    c.flush.ensures.puts.cause.later e.later
    (failed_since g.S.PageSource g.O.ByteSink g.E.ByteSink c.report_numbers.new.losses i.over e.later e.rose ends.1)

pub returns-clause-told : goal.returns-clause-told
returns-clause-told g c =
    let i = c.loop-n.invariant in
    let new = c.requires.new in
    map_told3 (g.S.PageSource.content c.args.source.now)
    (λ file found all goes. λ before least. all_saved
    (record { sink = g.O.ByteSink.written c.flush.new.sink; losses = g.E.ByteSink.written c.report_numbers.new.losses })
    c.args.wish.heeds c.report_numbers.new.failed (g.E.ByteSink.faults c.args.losses.now)
    (g.E.ByteSink.faults c.report_numbers.new.losses)
    (goes _ (begins c.args.search.now.pages new.knows least new.marks new.held new.saved new.heard refl))
    (failed_since g.S.PageSource g.O.ByteSink g.E.ByteSink c.report_numbers.new.losses i.over
    c.report_numbers.ensures.later c.report_numbers.ensures.rose)
    (MatchBool-at_false _ _ c.if-ends-2.false c.ends-2.ensures)
    found
    (let e : c.loop-n.n ≡ reach_of file = omega (arith, all, c.loop-n.auto.n-end, c.loop-n-test.false) in e)
    (of_ok c.flush.result (sym c.if-is_err.ensures.value) c.flush.ensures.puts.ok)
    c.report_numbers.ensures.got)
    c.requires.found c.requires.ready.look.told i.goes.told

pub returns-clause-over : goal.returns-clause-over
returns-clause-over g c =
    over_saved g.S.PageSource g.O.ByteSink g.E.ByteSink c.flush.new.sink c.report_numbers.new.losses _
    c.loop-n.invariant.over c.flush.ensures.puts.cause.later c.report_numbers.ensures.later
