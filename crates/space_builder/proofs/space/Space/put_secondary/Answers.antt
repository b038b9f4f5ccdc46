use Rattle.std.proofs.Common.{◌∙◌, List, sym, subst}
use Rattle.std.proofs.lemmas.Result.{err_from_is_err_and}
use Rattle.space_layout.specs.NumberedPages.{Numbered}
use Rattle.space_builder.specs.calls.Order.{IsIndexOrder}
use Rattle.space_builder.specs.calls.Picked.{picked_entries}
use Rattle.space_builder.specs.build.Puts.{PutsPages}
use Rattle.space_builder.specs.layout.Layout.{index_pages}
use Rattle.space_builder.proofs.Puts.{nothing_put}
use Rattle.space_builder.proofs.TreeSpaces.{secondary_are, can_put, pages_are, tree_room}
use Rattle.space_builder.proofs.space.Space.put_secondary.Goals as goal

pub returns-in_err-fields : goal.returns-in_err-fields
returns-in_err-fields g c = λ rows is.
    let r = err_from_is_err_and c.from_residual.result c.from_residual.ensures.1 in
    rw (r.1, r.2)
    (nothing_put g.T.PageStore c.args.store.now (index_pages c.args.self.now.schema.now rows c.args.j))

pub put_tree-requires-clause-tree : goal.put_tree-requires-clause-tree
put_tree-requires-clause-tree g c =
    let rows = c.requires.space.0 in
    let is = c.requires.space.1 in
    can_put c.laws_below.ensures c.args.self.now rows is c.args.j c.requires.index c.args.tree.now c.requires.tree
    (picked_entries c.deref-2.result.now c.args.self.now.rows.now c.deref.result.now)
    (secondary_are c.args.self.now rows is c.picked_entries_are_sorted.ensures c.args.j c.requires.second
    c.requires.index c.deref-2.result.now c.deref.result.now (c.deref-2.ensures.value ∙ c.in_ok-fields.ensures)
    (subst (IsIndexOrder c.args.self.now.schema.now c.args.self.now.rows.now c.args.j) (sym c.deref.ensures.value)
    (is.orders.each c.args.j c.index-self-j.result c.requires.second c.requires.index)))

pub put_tree-requires-clause-room : goal.put_tree-requires-clause-room
put_tree-requires-clause-room g c =
    tree_room g.T.PageStore c.args.store.now c.args.self.now c.args.j c.args.tree.now c.requires.tree c.requires.takes

pub returns : goal.returns
returns g c = λ rows is.
    subst (λ (pages : List Numbered). PutsPages g.T.PageStore c.args.store.now c.put_tree.new.store pages
    c.put_tree.result)
    (pages_are c.laws_below.ensures c.args.self.now rows is c.args.j c.requires.index c.args.tree.now c.requires.tree
    (picked_entries c.deref-2.result.now c.args.self.now.rows.now c.deref.result.now)
    (secondary_are c.args.self.now rows is c.picked_entries_are_sorted.ensures c.args.j c.requires.second
    c.requires.index c.deref-2.result.now c.deref.result.now (c.deref-2.ensures.value ∙ c.in_ok-fields.ensures)
    (subst (IsIndexOrder c.args.self.now.schema.now c.args.self.now.rows.now c.args.j) (sym c.deref.ensures.value)
    (is.orders.each c.args.j c.index-self-j.result c.requires.second c.requires.index))))
    c.put_tree.ensures
