use Rattle.std.proofs.Common.{◌∙◌, ℕ, List, Ok, Err, sym, subst}
use Rattle.std.proofs.lemmas.Result.{err_from_is_err_and}
use Rattle.schema_text.specs.declared.table.Format.{Format}
use Rattle.space_builder.specs.layout.Layout.{value_pages, trees_pages}
use Rattle.space_builder.specs.calls.Room.{TakesPages, TakesValues}
use Rattle.space_builder.proofs.Puts.{all_put}
use Rattle.space_builder.proofs.SpaceSteps.{takes_values, first_pages_are, values_told, stop_in_values, stop_in_trees}
use Rattle.space_builder.proofs.SpaceSteps.{ends_in_system}
use Rattle.space_builder.proofs.ValuePuts.{takes_still}
use Rattle.space_builder.proofs.space.Space.put_behind_head.Goals as goal

pub put_values-requires : goal.put_values-requires
put_values-requires g c =
    let rows = c.requires.space.0 in
    let is = c.requires.space.1 in
    subst (λ (format : Format). TakesValues (g.T.PageStore.told c.args.store.now) format c.deref.result.now
    c.leaves.result c.args.self.now.rows.now) (sym c.format-format.ensures)
    (subst (λ (sizes : List ℕ). TakesValues (g.T.PageStore.told c.args.store.now) c.args.self.now.schema.now.format
    sizes c.leaves.result c.args.self.now.rows.now) (sym c.deref.ensures.value)
    (takes_values c.laws_below.ensures c.args.self.now rows is (g.T.PageStore.told c.args.store.now) c.leaves.result
    (c.leaves.ensures rows is) c.requires.takes))

pub returns-in_err-first_pages : goal.returns-in_err-first_pages
returns-in_err-first_pages g c = λ rows is.
    let r = err_from_is_err_and c.from_residual.result c.from_residual.ensures.1 in
    rw (r.1, r.2)
    (stop_in_values c.laws_below.ensures c.args.self.now rows is g.T.PageStore c.args.store.now c.put_values.new.store
    c.in_err-first_pages.field-0.0
    (values_told c.laws_below.ensures c.args.self.now rows is g.T.PageStore c.args.store.now c.put_values.new.store
    c.format-format.result c.deref.result.now c.leaves.result (Err c.in_err-first_pages.field-0.0)
    c.format-format.ensures c.deref.ensures.value (c.leaves.ensures rows is) c.in_err-first_pages.ensures.puts))

pub put_trees-requires-clause-first : goal.put_trees-requires-clause-first
put_trees-requires-clause-first g c = λ rows is.
    first_pages_are c.laws_below.ensures c.args.self.now rows is c.in_ok-first_pages.first_pages.starts.items
    c.in_ok-first_pages.first_pages.pages.items c.format-format.result c.deref.result.now c.leaves.result
    c.format-format.ensures c.deref.ensures.value (c.leaves.ensures rows is) c.in_ok-first_pages.ensures.first

pub put_trees-requires-clause-takes : goal.put_trees-requires-clause-takes
put_trees-requires-clause-takes g c =
    takes_still (g.T.PageStore.told c.args.store.now) (g.T.PageStore.told c.put_values.new.store)
    c.args.self.now.plan.now.sizes.items c.in_ok-first_pages.ensures.puts.others.sizes.size c.requires.takes

pub put_system_pages-requires : goal.put_system_pages-requires
put_system_pages-requires g c =
    let trees = c.in_ok-put_trees.ensures c.requires.space.0 c.requires.space.1 in
    subst (TakesPages (g.T.PageStore.told c.put_trees.new.store)) (sym c.deref-2.ensures.value)
    (takes_still (g.T.PageStore.told c.args.store.now) (g.T.PageStore.told c.put_trees.new.store)
    c.args.self.now.plan.now.sizes.items
    (trees.others.sizes.size ∙ c.in_ok-first_pages.ensures.puts.others.sizes.size) c.requires.takes)

pub returns-in_err-put_trees : goal.returns-in_err-put_trees
returns-in_err-put_trees g c = λ rows is.
    let r = err_from_is_err_and c.from_residual-in_err-put_trees.result
    c.from_residual-in_err-put_trees.ensures.1 in
    rw (r.1, r.2)
    (stop_in_trees c.laws_below.ensures c.args.self.now rows is g.T.PageStore c.args.store.now c.put_values.new.store
    (all_put g.T.PageStore c.args.store.now c.put_values.new.store (value_pages c.args.self.now.schema.now rows)
    c.in_ok-first_pages.first_pages
    (values_told c.laws_below.ensures c.args.self.now rows is g.T.PageStore c.args.store.now c.put_values.new.store
    c.format-format.result c.deref.result.now c.leaves.result (Ok c.in_ok-first_pages.first_pages)
    c.format-format.ensures c.deref.ensures.value (c.leaves.ensures rows is) c.in_ok-first_pages.ensures.puts))
    c.put_trees.new.store c.in_err-put_trees.field-0.0 (c.in_err-put_trees.ensures rows is))

pub returns : goal.returns
returns g c = λ rows is.
    ends_in_system c.laws_below.ensures c.args.self.now rows is g.T.PageStore c.args.store.now c.put_values.new.store
    (all_put g.T.PageStore c.args.store.now c.put_values.new.store (value_pages c.args.self.now.schema.now rows)
    c.in_ok-first_pages.first_pages
    (values_told c.laws_below.ensures c.args.self.now rows is g.T.PageStore c.args.store.now c.put_values.new.store
    c.format-format.result c.deref.result.now c.leaves.result (Ok c.in_ok-first_pages.first_pages)
    c.format-format.ensures c.deref.ensures.value (c.leaves.ensures rows is) c.in_ok-first_pages.ensures.puts))
    c.put_trees.new.store
    (all_put g.T.PageStore c.put_values.new.store c.put_trees.new.store (trees_pages c.args.self.now.schema.now rows)
    c.in_ok-put_trees.field-0 (c.in_ok-put_trees.ensures rows is))
    c.put_system_pages.new.store c.put_system_pages.result c.deref-2.result.now c.deref-2.ensures.value
    c.put_system_pages.ensures
