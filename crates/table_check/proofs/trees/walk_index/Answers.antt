use Rattle.std.proofs.Common.{None, subst}
use Rattle.std.proofs.lemmas.Result.{err_from_is_err_and}
use Rattle.page_source.proofs.Told.{map_told, map_told2, map_told3}
use Rattle.tree_walk.specs.Index.{Index}
use Rattle.tree_walk.specs.Leaf.{IsWalked}
use Rattle.tree_walk.specs.Walk.{IsEndsOf}
use Rattle.table_check.proofs.TreeSteps.{index_is, tree_checked, tree_halts, tree_taken}
use Rattle.table_check.proofs.trees.walk_index.Goals as goal

pub returns-in_err-walk_tree-clause-exact : goal.returns-in_err-walk_tree-clause-exact
returns-in_err-walk_tree-clause-exact g c =
    let r = err_from_is_err_and c.from_residual-in_err-walk_tree.result c.from_residual-in_err-walk_tree.ensures.1 in
    rw (r.1, r.2)
    (map_told2 (g.S.PageSource.content c.args.source.now)
    (λ file are at. tree_halts file c.args.schema.now c.args.j c.index-indexes-j.result c.requires.index
    c.indexes.ensures.same c.in_ok-leaf.ensures.value c.in_ok-node.ensures.value are c.in_err-walk_tree.field-0.0 at)
    c.requires.told c.in_err-walk_tree.ensures.exact)

pub returns-clause-exact : goal.returns-clause-exact
returns-clause-exact g c =
    map_told2 (g.S.PageSource.content c.args.source.now)
    (λ file are check. tree_checked file c.args.schema.now c.args.j c.index-indexes-j.result c.requires.index
    c.indexes.ensures.same c.in_ok-leaf.ensures.value c.in_ok-node.ensures.value are None check)
    c.requires.told c.in_ok-walk_tree.ensures.exact

pub returns-clause-ends : goal.returns-clause-ends
returns-clause-ends g c =
    map_told (g.S.PageSource.content c.args.source.now)
    (λ file ends. subst (λ (i : Index). IsEndsOf i c.in_ok-walk_tree.field-0)
    (index_is file c.args.schema.now c.args.j c.index-indexes-j.result c.requires.index c.indexes.ensures.same
    c.in_ok-leaf.ensures.value c.in_ok-node.ensures.value) ends)
    c.in_ok-walk_tree.ensures.ends

pub returns-clause-walked : goal.returns-clause-walked
returns-clause-walked g c =
    map_told (g.S.PageSource.content c.args.source.now)
    (λ file walked. subst IsWalked
    (index_is file c.args.schema.now c.args.j c.index-indexes-j.result c.requires.index c.indexes.ensures.same
    c.in_ok-leaf.ensures.value c.in_ok-node.ensures.value) walked)
    c.in_ok-walk_tree.ensures.walked

pub returns-clause-taken : goal.returns-clause-taken
returns-clause-taken g c =
    map_told3 (g.S.PageSource.content c.args.source.now)
    (λ file are pages segments. tree_taken file c.args.schema.now c.args.j c.index-indexes-j.result c.requires.index
    c.indexes.ensures.same c.in_ok-leaf.ensures.value c.in_ok-node.ensures.value
    (record { pages = c.walk_tree.new.marks; segments = c.walk_tree.new.named }) are pages segments)
    c.requires.told c.in_ok-walk_tree.ensures.grew c.in_ok-walk_tree.ensures.names
