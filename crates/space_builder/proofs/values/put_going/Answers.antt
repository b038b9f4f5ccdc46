use Rattle.std.proofs.Common.{◌≡◌, ℕ, ◌++◌, ◌∙◌, List, [], Ok, slice_index, length, sym, ap, subst, arith}
use Rattle.std.proofs.lemmas.Result.{err_from_is_err_and}
use Rattle.space_layout.specs.NumberedPages.{Numbered}
use Rattle.row_layout.specs.HoldsValues.{stored_in}
use Rattle.space_builder.specs.build.Puts.{PutsPages}
use Rattle.space_builder.specs.calls.Room.{KeepsRow, row_pages, row_first_pages}
use Rattle.space_builder.proofs.Puts.{nothing_put, none_put, puts_all}
use Rattle.space_builder.proofs.FirstPages.{no_pages, no_counts, ok_still, stays_kept, went_kept}
use Rattle.space_builder.proofs.values.put_going.Goals as goal

pub returns-then-not-goes_off-clause-next : goal.returns-then-not-goes_off-clause-next
returns-then-not-goes_off-clause-next g c =
    let row = stored_in c.args.stored.now c.args.r in
    let stays = c.goes_off.ensures c.if-not-goes_off.true in
    omega (arith, no_counts c.args.format c.args.sizes.now c.args.at row stays)

pub returns-then-not-goes_off-clause-puts : goal.returns-then-not-goes_off-clause-puts
returns-then-not-goes_off-clause-puts g c =
    let row = stored_in c.args.stored.now c.args.r in
    let stays = c.goes_off.ensures c.if-not-goes_off.true in
    subst (λ (pages : List Numbered). PutsPages g.T.PageStore c.args.store.now c.args.store.now pages (Ok c.args.at))
    (sym (no_pages c.args.format c.args.sizes.now c.args.at row stays))
    (puts_all g.T.PageStore c.args.store.now c.args.store.now [] c.args.at
    (none_put g.T.PageStore c.args.store.now))

pub returns-then-not-goes_off-clause-keeps : goal.returns-then-not-goes_off-clause-keeps
returns-then-not-goes_off-clause-keeps g c =
    let row = stored_in c.args.stored.now c.args.r in
    stays_kept row c.args.r (row_first_pages c.args.format c.args.sizes.now c.args.at row)
    c.args.room.now.starts.items c.args.room.now.first_pages.items
    (c.goes_off.ensures c.if-not-goes_off.true) c.requires.few

pub returns-in_err-list_start-clause-puts : goal.returns-in_err-list_start-clause-puts
returns-in_err-list_start-clause-puts g c =
    let r = err_from_is_err_and c.from_residual.result c.from_residual.ensures.1 in
    rw (r.1, r.2)
    (nothing_put g.T.PageStore c.args.store.now
    (row_pages c.args.format c.args.sizes.now c.args.at (stored_in c.args.stored.now c.args.r)))

pub returns-clause-keeps : goal.returns-clause-keeps
returns-clause-keeps g c =
    let row = stored_in c.args.stored.now c.args.r in
    let pages = c.args.room.now.first_pages.items in
    let same : c.put_row.new.room.starts.items ≡ c.list_start.new.starts.items = c.put_row.ensures.starts in
    let place : c.len-place.result ≡ length pages =
    omega (arith, c.len-place.ensures, c.args.room.now.first_pages.ok) in
    ok_still c.put_row.result
    (c.put_row.new.room.first_pages.items
    ≡ pages ++ row_first_pages c.args.format c.args.sizes.now c.args.at row)
    (KeepsRow row c.args.r (row_first_pages c.args.format c.args.sizes.now c.args.at row)
    c.args.room.now.starts.items c.put_row.new.room.starts.items pages c.put_row.new.room.first_pages.items)
    (went_kept row c.args.r (row_first_pages c.args.format c.args.sizes.now c.args.at row)
    c.args.room.now.starts.items c.put_row.new.room.starts.items pages c.put_row.new.room.first_pages.items
    (ap length same ∙ c.in_ok-list_start.ensures.size)
    (ap (λ (ns : List ℕ). slice_index ns c.args.r) same ∙ c.in_ok-list_start.ensures.here ∙ place)
    (λ q below. ap (λ (ns : List ℕ). slice_index ns q) same ∙ c.in_ok-list_start.ensures.same q below))
    c.put_row.ensures.first
