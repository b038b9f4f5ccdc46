use Rattle.std.proofs.Common.{List, subst}
use Rattle.row_layout.specs.HoldsValues.{clustered_entries}
use Rattle.space_layout.specs.NumberedPages.{Numbered}
use Rattle.space_builder.specs.calls.Picked.{first_page_in}
use Rattle.space_builder.specs.build.Puts.{PutsPages}
use Rattle.space_builder.proofs.SpaceSteps.{some_index}
use Rattle.space_builder.proofs.TreeSpaces.{clustered_are, can_put, pages_are, tree_room}
use Rattle.space_builder.proofs.space.Space.put_clustered.Goals as goal

pub put_tree-requires-clause-tree : goal.put_tree-requires-clause-tree
put_tree-requires-clause-tree g c =
    let rows = c.requires.space.0 in
    let is = c.requires.space.1 in
    can_put c.laws_below.ensures c.args.self.now rows is 0 (some_index c.args.self.now rows is) c.args.tree.now
    c.requires.tree
    (clustered_entries c.format.result (first_page_in c.deref-2.result.now c.deref.result.now)
    c.args.self.now.rows.now)
    (clustered_are c.laws_below.ensures c.fitted_rows_are_rows.ensures c.args.self.now rows is
    c.same_pages_give_records.ensures c.args.first_pages.now c.deref-2.result.now c.deref.result.now c.format.result
    (c.requires.first rows is) c.deref-2.ensures.value c.deref.ensures.value c.format.ensures)

pub put_tree-requires-clause-room : goal.put_tree-requires-clause-room
put_tree-requires-clause-room g c =
    tree_room g.T.PageStore c.args.store.now c.args.self.now 0 c.args.tree.now c.requires.tree c.requires.takes

pub returns : goal.returns
returns g c = λ rows is.
    subst (λ (pages : List Numbered). PutsPages g.T.PageStore c.args.store.now c.put_tree.new.store pages
    c.put_tree.result)
    (pages_are c.laws_below.ensures c.args.self.now rows is 0 (some_index c.args.self.now rows is) c.args.tree.now
    c.requires.tree
    (clustered_entries c.format.result (first_page_in c.deref-2.result.now c.deref.result.now)
    c.args.self.now.rows.now)
    (clustered_are c.laws_below.ensures c.fitted_rows_are_rows.ensures c.args.self.now rows is
    c.same_pages_give_records.ensures c.args.first_pages.now c.deref-2.result.now c.deref.result.now c.format.result
    (c.requires.first rows is) c.deref-2.ensures.value c.deref.ensures.value c.format.ensures))
    c.put_tree.ensures
