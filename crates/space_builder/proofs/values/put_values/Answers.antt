use Rattle.std.proofs.Common.{◌≡◌, ℕ, ◌<◌, List, [], length, sym, subst, arith}
use Rattle.std.proofs.lemmas.Result.{err_from_is_err_and}
use Rattle.space_builder.specs.calls.Room.{AreKept, pages_behind}
use Rattle.space_builder.proofs.Puts.{nothing_put}
use Rattle.space_builder.proofs.FirstPages.{none_kept, row_kept, all_kept}
use Rattle.space_builder.proofs.ValueSteps.{RowsPut, rows_start, row_takes, row_failed, rows_next, rows_all}
use Rattle.space_builder.proofs.values.put_values.Goals as goal

pub returns-in_err-zeroed-clause-puts : goal.returns-in_err-zeroed-clause-puts
returns-in_err-zeroed-clause-puts g c =
    let r = err_from_is_err_and c.from_residual.result c.from_residual.ensures.1 in
    rw (r.1, r.2)
    (nothing_put g.T.PageStore c.args.store.now
    (pages_behind c.args.format c.args.sizes.now c.args.leaves c.args.stored.now))

pub loop-r-init : goal.loop-r-init
loop-r-init g c =
    let format = c.args.format in
    let sizes = c.args.sizes.now in
    let rows = c.args.stored.now in
    record {
      put = rows_start g.T.PageStore format sizes c.args.leaves rows c.args.store.now;
      kept =
          subst (λ (pages : List ℕ). AreKept format sizes c.args.leaves rows 0 c.new-3.result.items pages)
          (sym c.new-2.ensures.items)
          (subst (λ (starts : List ℕ). AreKept format sizes c.args.leaves rows 0 starts [])
          (sym c.new-3.ensures.items) (none_kept format sizes c.args.leaves rows));
    }

pub put_going-requires-clause-row : goal.put_going-requires-clause-row
put_going-requires-clause-row g c = omega (arith, c.count-r-end.ensures, c.loop-r-test.true)

pub put_going-requires-clause-takes : goal.put_going-requires-clause-takes
put_going-requires-clause-takes g c =
    let inside : c.loop-r.r < length c.args.stored.now = omega (arith, c.count-r-end.ensures, c.loop-r-test.true) in
    row_takes g.T.PageStore c.args.format c.args.sizes.now c.args.leaves c.args.stored.now c.args.store.now
    c.loop-r.store c.loop-r.r c.loop-r.next c.requires inside c.loop-r.invariant.put

pub returns-in_err-next-clause-puts : goal.returns-in_err-next-clause-puts
returns-in_err-next-clause-puts g c =
    let inside : c.loop-r.r < length c.args.stored.now = omega (arith, c.count-r-end.ensures, c.loop-r-test.true) in
    let r = err_from_is_err_and c.from_residual-in_err-next.result c.from_residual-in_err-next.ensures.1 in
    rw (r.1, r.2)
    (row_failed g.T.PageStore c.args.format c.args.sizes.now c.args.leaves c.args.stored.now c.args.store.now
    c.loop-r.store c.put_going.new.store c.loop-r.r c.loop-r.next c.in_err-next.field-0.0 inside
    c.loop-r.invariant.put c.in_err-next.ensures.puts)

pub loop-r-preserved : goal.loop-r-preserved
loop-r-preserved g c =
    let inside : c.loop-r.r < length c.args.stored.now = omega (arith, c.count-r-end.ensures, c.loop-r-test.true) in
    record {
      put =
          rows_next g.T.PageStore c.args.format c.args.sizes.now c.args.leaves c.args.stored.now c.args.store.now
          c.loop-r.store c.put_going.new.store c.loop-r.r c.loop-r.next c.in_ok-next.next c.requires.one inside
          c.loop-r.invariant.put c.in_ok-next.ensures.puts c.in_ok-next.ensures.next;
      kept =
          row_kept c.args.format c.args.sizes.now c.args.leaves c.args.stored.now c.loop-r.r c.loop-r.next
          c.loop-r.room.starts.items c.put_going.new.room.starts.items c.loop-r.room.first_pages.items
          c.put_going.new.room.first_pages.items c.loop-r.invariant.kept inside c.loop-r.invariant.put.place
          c.in_ok-next.ensures.keeps;
    }

pub returns-clause-puts : goal.returns-clause-puts
returns-clause-puts g c =
    let all : c.loop-r.r ≡ length c.args.stored.now = omega (
      arith,
      c.count-r-end.ensures,
      c.loop-r-test.false,
      c.loop-r.auto.r-end,
    ) in
    rows_all g.T.PageStore c.args.format c.args.sizes.now c.args.leaves c.args.stored.now c.args.store.now
    c.loop-r.store c.loop-r.next (record { pages = c.loop-r.room.first_pages; starts = c.loop-r.room.starts })
    (subst (λ (r : ℕ). RowsPut g.T.PageStore c.args.format c.args.sizes.now c.args.leaves c.args.stored.now
    c.args.store.now c.loop-r.store r c.loop-r.next) all c.loop-r.invariant.put)

pub returns-clause-first : goal.returns-clause-first
returns-clause-first g c =
    all_kept c.args.format c.args.sizes.now c.args.leaves c.args.stored.now c.loop-r.r c.loop-r.room.starts.items
    c.loop-r.room.first_pages.items (omega (arith, c.count-r-end.ensures, c.loop-r-test.false))
    c.loop-r.invariant.kept
