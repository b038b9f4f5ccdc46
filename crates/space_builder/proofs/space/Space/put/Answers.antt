use Rattle.std.proofs.Common.{◌∙◌, ℕ, List, [], ◌∷◌, sym, subst}
use Rattle.std.proofs.lemmas.Result.{err_from_is_err_and}
use Rattle.schema_text.specs.Formats.{flags_of}
use Rattle.space_layout.specs.HeadPages.{header_page}
use Rattle.space_builder.specs.build.Puts.{PutsPages}
use Rattle.space_builder.specs.calls.Room.{TakesPages}
use Rattle.space_builder.proofs.SpaceEnds.{no_page, can_size, not_sized, takes_pages, behind_failed, head_ends}
use Rattle.space_builder.proofs.ValuePuts.{takes_still}
use Rattle.space_builder.proofs.space.Space.put.Goals as goal

pub returns-in_err-page : goal.returns-in_err-page
returns-in_err-page g c = λ rows is.
    let r = err_from_is_err_and c.from_residual.result c.from_residual.ensures.1 in
    rw (r.1, r.2) (no_page c.laws_below.ensures c.args.self.now rows is g.T.PageStore c.args.store.now c.requires.fresh)

pub set_size-requires : goal.set_size-requires
set_size-requires g c =
    can_size c.laws_below.ensures c.args.self.now c.requires.space.0 c.requires.space.1 g.T.PageStore c.args.store.now
    c.requires.fresh c.pages.result (c.pages.ensures c.requires.space.0 c.requires.space.1)

pub returns-in_err-set_size : goal.returns-in_err-set_size
returns-in_err-set_size g c = λ rows is.
    let r = err_from_is_err_and c.from_residual-in_err-set_size.result c.from_residual-in_err-set_size.ensures.1 in
    rw (r.1, r.2)
    (not_sized c.laws_below.ensures c.args.self.now rows is g.T.PageStore c.args.store.now c.requires.fresh
    c.set_size.new.self c.pages.result (c.pages.ensures rows is) c.in_err-set_size.ensures.cause.later
    c.in_err-set_size.ensures.done c.in_err-set_size.ensures.cause.failed)

pub put_behind_head-requires-clause-takes : goal.put_behind_head-requires-clause-takes
put_behind_head-requires-clause-takes g c =
    takes_pages c.laws_below.ensures c.args.self.now c.requires.space.0 c.requires.space.1 g.T.PageStore
    c.args.store.now c.requires.fresh c.set_size.new.self c.pages.result
    (c.pages.ensures c.requires.space.0 c.requires.space.1) c.in_ok-set_size.ensures.cause.later
    c.in_ok-set_size.ensures.done.1

pub returns-in_err-put_behind_head : goal.returns-in_err-put_behind_head
returns-in_err-put_behind_head g c = λ rows is.
    let r = err_from_is_err_and c.from_residual-in_err-put_behind_head.result
    c.from_residual-in_err-put_behind_head.ensures.1 in
    rw (r.1, r.2)
    (behind_failed c.laws_below.ensures c.args.self.now rows is g.T.PageStore c.args.store.now c.requires.fresh
    c.set_size.new.self c.pages.result (c.pages.ensures rows is) c.in_ok-set_size.ensures.cause.later
    c.put_behind_head.new.store c.in_err-put_behind_head.field-0.0 c.in_ok-set_size.ensures.done.0
    c.in_ok-set_size.ensures.done.1 (c.in_err-put_behind_head.ensures rows is))

pub put_head_page-requires : goal.put_head_page-requires
put_head_page-requires g c =
    let rows = c.requires.space.0 in
    let is = c.requires.space.1 in
    let behind = c.in_ok-put_behind_head.ensures rows is in
    subst (TakesPages (g.T.PageStore.told c.put_behind_head.new.store)) (sym c.deref.ensures.value)
    (takes_still (g.T.PageStore.told c.set_size.new.self) (g.T.PageStore.told c.put_behind_head.new.store)
    c.args.self.now.plan.now.sizes.items behind.others.sizes.size
    (takes_pages c.laws_below.ensures c.args.self.now rows is g.T.PageStore c.args.store.now c.requires.fresh
    c.set_size.new.self c.pages.result (c.pages.ensures rows is) c.in_ok-set_size.ensures.cause.later
    c.in_ok-set_size.ensures.done.1))

pub returns : goal.returns
returns g c = λ rows is.
    head_ends c.laws_below.ensures c.args.self.now rows is g.T.PageStore c.args.store.now c.requires.fresh
    c.set_size.new.self c.pages.result (c.pages.ensures rows is) c.in_ok-set_size.ensures.cause.later
    c.put_behind_head.new.store c.put_head_page.new.store c.in_ok-put_behind_head.field-0
    c.put_head_page.result c.in_ok-set_size.ensures.done.0 c.in_ok-set_size.ensures.done.1
    (c.in_ok-put_behind_head.ensures rows is)
    c.put_head_page.ensures.memory
    (subst (λ (sizes : List ℕ). PutsPages g.T.PageStore c.put_behind_head.new.store c.put_head_page.new.store
    ((0, header_page sizes (flags_of c.args.self.now.schema.now.format)) ∷ []) c.put_head_page.result)
    (c.deref.ensures.value ∙ is.plan.sizes)
    (subst (λ (flags : ℕ). PutsPages g.T.PageStore c.put_behind_head.new.store c.put_head_page.new.store
    ((0, header_page c.deref.result.now flags) ∷ []) c.put_head_page.result) c.flags.ensures
    c.put_head_page.ensures.puts))
