use Rattle.std.proofs.Common.{◌≡◌, ◌∙◌, ◌+◌, ◌<◌, ℕ, List, refl, sym, ap, arith}
use Rattle.std.proofs.lemmas.Result.{err_from_is_err_and}
use Rattle.page_source.proofs.Told.{map_told, map_told2, map_told3}
use Rattle.schema_text.specs.IndexFields.{leaf_fields}
use Rattle.salvage_model.specs.Records.{list_length, is_of}
use Rattle.table_salvage.proofs.LeafSteps.{list_read, places_few, is_record, is_none, first_origin, next_at}
use Rattle.table_salvage.proofs.LeafSteps.{leaf_starts, skipped, leaf_ends}
use Rattle.table_salvage.proofs.PartSteps.{over_none, over_then, goes_then, goes_off, in_hand_on}
use Rattle.table_salvage.proofs.rows.save_rows.Goals as goal
use Rattle.table_salvage.proofs.rows.save_rows.Goals.{then-is_of+in_ok-save_row, else-is_of}

pub loop-k-init : goal.loop-k-init
loop-k-init g c =
    let page = c.args.room.now.page in
    let kind = c.args.search.now.kind in
    record {
      ready = c.requires.ready;
      page = refl;
      at = first_origin kind page c.of-list.result.first c.of-list.ensures.first;
      few = record {
        rows_most = omega (arith, c.requires.few.rows_most);
        leaves_most = c.requires.few.leaves_most;
        lost_most = c.requires.few.lost_most;
      };
      paid = omega arith;
      over = over_none g.S.PageSource g.O.ByteSink g.E.ByteSink _ _ _;
      goes = record {
        told = map_told (g.S.PageSource.content c.args.source.now)
            (λ file held. λ start met.
            leaf_starts page (c.of-list.result.place + 0) held (omega (arith, c.of-list.ensures.place)) met)
            c.requires.held.held;
      };
    }

pub is_of-requires : goal.is_of-requires
is_of-requires g c =
    let i = c.loop-k.invariant in
    let page = c.args.room.now.page in
    let kind = c.args.search.now.kind in
    let r = c.whole_leaves_can_be_read.ensures page (leaf_fields c.args.search.now.schema.now 0) c.requires.is_leaf in
    let within : c.loop-k.k < list_length kind page = omega (arith, c.loop-k-test.true, c.of-list.ensures.count) in
    let heap = rw (sym i.at) at (list_read page _ r kind c.loop-k.k within).heap in
    (omega (arith, heap.0), heap.1)

pub save_row-requires-clause-held : goal.save_row-requires-clause-held
save_row-requires-clause-held g c =
    let i = c.loop-k.invariant in
    in_hand_on g.S.PageSource g.O.ByteSink g.E.ByteSink i.over.same i.page c.requires.held

pub save_row-requires-clause-found : goal.save_row-requires-clause-found
save_row-requires-clause-found g c =
    let i = c.loop-k.invariant in
    let page = c.args.room.now.page in
    let kind = c.args.search.now.kind in
    let r = c.whole_leaves_can_be_read.ensures page (leaf_fields c.args.search.now.schema.now 0) c.requires.is_leaf in
    let within : c.loop-k.k < list_length kind page = omega (arith, c.loop-k-test.true, c.of-list.ensures.count) in
    let can = list_read page _ r kind c.loop-k.k within in
    let of = c.if-is_of.ensures ∙ ap (λ (p : List ℕ). is_of kind p c.loop-k.origin) i.page in
    let few = places_few page _ r kind in
    record {
      record_of = rw i.page (is_record kind page c.loop-k.k c.loop-k.origin (c.of-list.result.place + c.loop-k.k) i.at
          within (omega (arith, c.of-list.ensures.place)) of);
      fits = omega (arith, few, within, c.of-list.ensures.place);
      heap = rw i.at can.heap;
      spelled = rw (i.page, i.at) can.spelled;
      ends = rw (i.page, i.at) can.ends;
    }

pub next_origin-origin-requires : goal.next_origin-origin-requires
next_origin-origin-requires g c =
    let i = c.loop-k.invariant in
    let page = c.args.room.now.page in
    let kind = c.args.search.now.kind in
    let r = c.whole_leaves_can_be_read.ensures page (leaf_fields c.args.search.now.schema.now 0) c.requires.is_leaf in
    let within : c.loop-k.k < list_length kind page = omega (arith, c.loop-k-test.true, c.of-list.ensures.count) in
    let heap = rw (sym i.at) at (list_read page _ r kind c.loop-k.k within).heap in
    (omega (arith, heap.0), heap.1)

pub loop-k-preserved : goal.loop-k-preserved
loop-k-preserved g c =
    let i = c.loop-k.invariant in
    let page = c.args.room.now.page in
    let kind = c.args.search.now.kind in
    let place = c.of-list.result.place + c.loop-k.k in
    let next : c.of-list.result.place + (c.loop-k.k + 1) ≡ place + 1 = omega arith in
    elim c.if-is_of.branch [
      | then-is_of+in_ok-save_row w ↦
          let e = w.in_ok-save_row.ensures in
          rw (w.room-is, w.source-is, w.sink-is, w.losses-is, w.steps-is) (record {
            ready = e.ready;
            page = e.page ∙ i.page;
            at = next_at kind page w.save_row.new.room.page c.loop-k.origin c.next_origin-origin.result c.loop-k.k
                (e.page ∙ i.page) i.at (rw w.room-is at c.next_origin-origin.ensures.value);
            few = record {
              rows_most = omega (arith, e.few.rows_most);
              leaves_most = e.few.leaves_most;
              lost_most = e.few.lost_most;
            };
            paid = omega (arith, i.paid, e.paid);
            over = over_then g.S.PageSource g.O.ByteSink g.E.ByteSink i.over e.over;
            goes = rw next (goes_then g.S.PageSource g.O.ByteSink g.E.ByteSink _ _ _ i.over.same i.goes e.goes);
          })
      | else-is_of w ↦
          let isnt = is_none kind page c.loop-k.k c.loop-k.origin place i.at (omega (arith, c.of-list.ensures.place))
          (w.if-is_of.ensures ∙ ap (λ (p : List ℕ). is_of kind p c.loop-k.origin) i.page) in
          rw (w.room-is, w.source-is, w.sink-is, w.losses-is, w.steps-is) (record {
            ready = i.ready;
            page = i.page;
            at = next_at kind page c.loop-k.room.page c.loop-k.origin c.next_origin-origin.result c.loop-k.k
                i.page i.at (rw w.room-is at c.next_origin-origin.ensures.value);
            few = record {
              rows_most = omega (arith, i.few.rows_most);
              leaves_most = i.few.leaves_most;
              lost_most = i.few.lost_most;
            };
            paid = i.paid;
            over = i.over;
            goes = rw next (record {
              told = map_told2 (g.S.PageSource.content c.args.source.now)
                  (λ file held goes. λ start met.
                  skipped page place held (omega (arith, c.of-list.ensures.place)) isnt (goes start met))
                  c.requires.held.held i.goes.told;
            });
          })
    ]

pub returns-in_err-save_row : goal.returns-in_err-save_row
returns-in_err-save_row g c =
    let i = c.loop-k.invariant in
    let page = c.args.room.now.page in
    let e = c.in_err-save_row.ensures in
    let law = c.whole_leaves_can_be_read.ensures page (leaf_fields c.args.search.now.schema.now 0) c.requires.is_leaf in
    let few = places_few page _ law c.args.search.now.kind in
    let r = err_from_is_err_and c.from_residual.result c.from_residual.ensures.1 in
    record {
      goes = rw (r.1, r.2) (goes_off g.S.PageSource g.O.ByteSink g.E.ByteSink c.in_err-save_row.field-0.0 _ _ _
          (goes_then g.S.PageSource g.O.ByteSink g.E.ByteSink _ _ _ i.over.same i.goes e.goes));
      ready = e.ready;
      few = record {
        rows_most = omega (
          arith,
          e.few.rows_most,
          few,
          c.loop-k-test.true,
          c.of-list.ensures.count,
          c.of-list.ensures.place,
        );
        leaves_most = e.few.leaves_most;
        lost_most = e.few.lost_most;
      };
      paid = omega (arith, i.paid, e.paid);
      over = rw (r.1, r.2) (over_then g.S.PageSource g.O.ByteSink g.E.ByteSink i.over e.over);
    }

pub returns : goal.returns
returns g c =
    let i = c.loop-k.invariant in
    let page = c.args.room.now.page in
    let law = c.whole_leaves_can_be_read.ensures page (leaf_fields c.args.search.now.schema.now 0) c.requires.is_leaf in
    let few = places_few page _ law c.args.search.now.kind in
    record {
      goes = record {
        told = map_told3 (g.S.PageSource.content c.args.source.now)
            (λ file pages held goes. λ start met.
            leaf_ends page (c.of-list.result.place + c.loop-k.k) held (omega (arith, pages, c.requires.held.below))
            (omega (arith, c.loop-k-test.false, c.loop-k.auto.k-end, c.of-list.ensures.count, c.of-list.ensures.place))
            (goes start met))
            c.requires.ready.look.told c.requires.held.held i.goes.told;
      };
      ready = i.ready;
      few = record {
        rows_most = omega (
          arith,
          i.few.rows_most,
          few,
          c.loop-k.auto.k-end,
          c.of-list.ensures.count,
          c.of-list.ensures.place,
        );
        leaves_most = i.few.leaves_most;
        lost_most = i.few.lost_most;
      };
      paid = i.paid;
      over = i.over;
    }
