use Rattle.std.proofs.Common.{[], ◌∷◌, subst, arith}
use Rattle.std.proofs.lemmas.Result.{err_from_is_err_and}
use Rattle.page_source.specs.Objects.{HoldsPage}
use Rattle.space_layout.specs.HeadPages.{bitmap_page, inode_page}
use Rattle.space_builder.specs.layout.Layout.{system_pages}
use Rattle.space_builder.proofs.HeadPuts.{heads_below, second_failed, third_failed, system_put}
use Rattle.space_builder.proofs.Puts.{ArePut, one_put, puts_all}
use Rattle.space_builder.proofs.ValuePuts.{takes_still}
use Rattle.space_builder.proofs.head_pages.put_system_pages.Goals as goal

pub put-requires : goal.put-requires
put-requires g c =
    heads_below (g.T.PageStore.told c.args.store.now) c.args.sizes.now 2 (omega arith) c.requires

pub put-requires-2 : goal.put-requires-2
put-requires-2 g c =
    heads_below (g.T.PageStore.told c.put.new.self) c.args.sizes.now 1 (omega arith)
    (takes_still (g.T.PageStore.told c.args.store.now) (g.T.PageStore.told c.put.new.self) c.args.sizes.now
    c.in_ok-put.ensures.done.0.size c.requires)

pub returns-in_err-put : goal.returns-in_err-put
returns-in_err-put g c =
    let r = err_from_is_err_and c.from_residual.result c.from_residual.ensures.1 in
    rw (r.1, r.2)
    (second_failed g.T.PageStore c.args.sizes.now c.args.store.now c.put.new.self c.in_err-put.ensures.done.0
    c.in_err-put.ensures.done.1 c.in_err-put.ensures.cause.later c.in_err-put.ensures.cause.failed)

pub returns-in_err-put-2 : goal.returns-in_err-put-2
returns-in_err-put-2 g c =
    let r = err_from_is_err_and c.from_residual-in_err-put-2.result c.from_residual-in_err-put-2.ensures.1 in
    let first : ArePut g.T.PageStore c.args.store.now c.put.new.self ((2, inode_page c.args.sizes.now) ∷ []) =
    one_put g.T.PageStore c.args.store.now c.put.new.self 2 (inode_page c.args.sizes.now)
    c.in_ok-put.ensures.done.0
    (subst (HoldsPage (g.T.PageStore.told c.args.store.now).held (g.T.PageStore.told c.put.new.self).held 2)
    c.put_inode_page.ensures c.in_ok-put.ensures.done.1) c.in_ok-put.ensures.cause.later in
    rw (r.1, r.2)
    (third_failed g.T.PageStore c.args.sizes.now c.args.store.now c.put.new.self c.put-2.new.self first
    c.in_err-put-2.ensures.done.0 c.in_err-put-2.ensures.done.1 c.in_err-put-2.ensures.cause.later
    c.in_err-put-2.ensures.cause.failed)

pub returns : goal.returns
returns g c =
    let first : ArePut g.T.PageStore c.args.store.now c.put.new.self ((2, inode_page c.args.sizes.now) ∷ []) =
    one_put g.T.PageStore c.args.store.now c.put.new.self 2 (inode_page c.args.sizes.now)
    c.in_ok-put.ensures.done.0
    (subst (HoldsPage (g.T.PageStore.told c.args.store.now).held (g.T.PageStore.told c.put.new.self).held 2)
    c.put_inode_page.ensures c.in_ok-put.ensures.done.1) c.in_ok-put.ensures.cause.later in
    let last : ArePut g.T.PageStore c.put.new.self c.put-2.new.self ((1, bitmap_page) ∷ []) =
    one_put g.T.PageStore c.put.new.self c.put-2.new.self 1 bitmap_page c.in_ok-put-2.ensures.done.0
    (subst (HoldsPage (g.T.PageStore.told c.put.new.self).held (g.T.PageStore.told c.put-2.new.self).held 1)
    c.put_bitmap_page.ensures c.in_ok-put-2.ensures.done.1) c.in_ok-put-2.ensures.cause.later in
    puts_all g.T.PageStore c.args.store.now c.put-2.new.self (system_pages c.args.sizes.now) tt
    (system_put g.T.PageStore c.args.sizes.now c.args.store.now c.put.new.self c.put-2.new.self first last)
