use Rattle.std.proofs.Common.{List, ℕ, [], ◌∷◌, Ok, subst}
use Rattle.space_builder.specs.declared.built.PutStop.TheVariants as stops
use Rattle.space_builder.specs.layout.TreeSpot.{page_at_spot}
use Rattle.space_builder.specs.build.Puts.{PutsPages}
use Rattle.space_builder.proofs.Puts.{one_put, one_failed, puts_all, failed_as}
use Rattle.space_builder.proofs.levels.put_page.Goals as goal

pub returns-in_err-put-clause-puts : goal.returns-in_err-put-clause-puts
returns-in_err-put-clause-puts g c =
    let n = c.args.spot.number in
    let page = page_at_spot c.args.room.now.packer c.args.spot in
    failed_as g.T.PageStore c.args.store.now c.put.new.self ((n, page) ∷ []) c.from_residual.result stops.Store
    c.from_residual.ensures.1
    (one_failed g.T.PageStore c.args.store.now c.put.new.self n page c.in_err-put.ensures.done.0
    c.in_err-put.ensures.done.1 c.in_err-put.ensures.cause.later c.in_err-put.ensures.cause.failed)

pub returns-clause-puts : goal.returns-clause-puts
returns-clause-puts g c =
    let n = c.args.spot.number in
    let page = c.put_tree_page.new.page in
    subst (λ (page : List ℕ). PutsPages g.T.PageStore c.args.store.now c.put.new.self ((n, page) ∷ []) (Ok tt))
    c.put_tree_page.ensures.page
    (puts_all g.T.PageStore c.args.store.now c.put.new.self ((n, page) ∷ []) tt
    (one_put g.T.PageStore c.args.store.now c.put.new.self n page c.in_ok-put.ensures.done.0
    c.in_ok-put.ensures.done.1 c.in_ok-put.ensures.cause.later))
