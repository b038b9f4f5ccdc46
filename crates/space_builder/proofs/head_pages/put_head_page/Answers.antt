use Rattle.std.proofs.Common.{[], ◌∷◌, subst, arith}
use Rattle.std.proofs.lemmas.Result.{err_from_is_err_and}
use Rattle.page_source.specs.Objects.{HoldsPage}
use Rattle.space_layout.specs.HeadPages.{header_page}
use Rattle.space_builder.proofs.HeadPuts.{heads_below}
use Rattle.space_builder.proofs.Puts.{one_put, one_failed, puts_all}
use Rattle.space_builder.proofs.head_pages.put_head_page.Goals as goal

pub put-requires : goal.put-requires
put-requires g c =
    heads_below (g.T.PageStore.told c.args.store.now) c.args.sizes.now 0 (omega arith) c.requires

pub returns-in_err-put-clause-puts : goal.returns-in_err-put-clause-puts
returns-in_err-put-clause-puts g c =
    let r = err_from_is_err_and c.from_residual.result c.from_residual.ensures.1 in
    rw (r.1, r.2)
    (one_failed g.T.PageStore c.args.store.now c.put.new.self 0 (header_page c.args.sizes.now c.args.flags)
    c.in_err-put.ensures.done.0 c.in_err-put.ensures.done.1 c.in_err-put.ensures.cause.later
    c.in_err-put.ensures.cause.failed)

pub returns-clause-puts : goal.returns-clause-puts
returns-clause-puts g c =
    puts_all g.T.PageStore c.args.store.now c.put.new.self ((0, header_page c.args.sizes.now c.args.flags) ∷ []) tt
    (one_put g.T.PageStore c.args.store.now c.put.new.self 0 (header_page c.args.sizes.now c.args.flags)
    c.in_ok-put.ensures.done.0
    (subst (HoldsPage (g.T.PageStore.told c.args.store.now).held (g.T.PageStore.told c.put.new.self).held 0)
    c.put_header_page.ensures c.in_ok-put.ensures.done.1) c.in_ok-put.ensures.cause.later)
