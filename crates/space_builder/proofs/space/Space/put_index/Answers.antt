use Rattle.std.proofs.Common.{◌∙◌, ap, refl}
use Rattle.std.proofs.lemmas.Result.{err_from_is_err_and}
use Rattle.schema_text.specs.IndexFields.{leaf_fields, node_fields}
use Rattle.space_builder.specs.layout.Layout.{index_pages, tree_counts}
use Rattle.space_builder.proofs.Puts.{nothing_put}
use Rattle.space_builder.proofs.TreeSpaces.{plan_levels}
use Rattle.space_builder.proofs.space.Space.put_index.Goals as goal

pub returns-in_err-leaf : goal.returns-in_err-leaf
returns-in_err-leaf g c = λ rows is.
    let r = err_from_is_err_and c.from_residual.result c.from_residual.ensures.1 in
    rw (r.1, r.2)
    (nothing_put g.T.PageStore c.args.store.now (index_pages c.args.self.now.schema.now rows c.args.j))

pub returns-in_err-node : goal.returns-in_err-node
returns-in_err-node g c = λ rows is.
    let r = err_from_is_err_and c.from_residual-in_err-node.result c.from_residual-in_err-node.ensures.1 in
    rw (r.1, r.2)
    (nothing_put g.T.PageStore c.args.store.now (index_pages c.args.self.now.schema.now rows c.args.j))

pub put_clustered-requires-clause-tree : goal.put_clustered-requires-clause-tree
put_clustered-requires-clause-tree g c = record {
  index = c.if-j-eq0.true;
  leaf = c.in_ok-leaf.ensures.value ∙ ap (leaf_fields c.args.self.now.schema.now) c.if-j-eq0.true;
  node = c.in_ok-node.ensures.value ∙ ap (node_fields c.args.self.now.schema.now) c.if-j-eq0.true;
  sizes = c.deref.ensures.value;
  counts = λ rows is.
      c.deref-2.ensures.value
      ∙ plan_levels c.args.self.now rows is c.args.j c.requires.index c.index.result.now c.index.ensures
      ∙ ap (tree_counts c.args.self.now.schema.now rows) c.if-j-eq0.true;
}

pub put_secondary-requires-clause-tree : goal.put_secondary-requires-clause-tree
put_secondary-requires-clause-tree g c = record {
  index = refl;
  leaf = c.in_ok-leaf.ensures.value;
  node = c.in_ok-node.ensures.value;
  sizes = c.deref.ensures.value;
  counts = λ rows is.
      c.deref-2.ensures.value
      ∙ plan_levels c.args.self.now rows is c.args.j c.requires.index c.index.result.now c.index.ensures;
}
