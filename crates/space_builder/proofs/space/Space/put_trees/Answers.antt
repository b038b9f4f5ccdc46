use Rattle.std.proofs.Common.{◌≡◌, ℕ, ◌<◌, length, ap, subst, arith}
use Rattle.std.specs.List.{flat_map, range_with_len}
use Rattle.std.proofs.lemmas.Result.{err_from_is_err_and}
use Rattle.space_builder.specs.layout.Layout.{index_pages, trees_pages}
use Rattle.space_builder.proofs.Puts.{ArePut, none_put, all_put, puts_all}
use Rattle.space_builder.proofs.PutSteps.{next_put, next_failed}
use Rattle.space_builder.proofs.Puts.{nothing_put}
use Rattle.space_builder.proofs.SpaceSteps.{trees_one}
use Rattle.space_builder.proofs.ValuePuts.{takes_still}
use Rattle.space_builder.proofs.space.Space.put_trees.Goals as goal

pub returns-in_err-room : goal.returns-in_err-room
returns-in_err-room g c = λ rows is.
    let r = err_from_is_err_and c.from_residual.result c.from_residual.ensures.1 in
    rw (r.1, r.2) (nothing_put g.T.PageStore c.args.store.now (trees_pages c.args.self.now.schema.now rows))

pub loop-j-init : goal.loop-j-init
loop-j-init g c = λ rows is. none_put g.T.PageStore c.args.store.now

pub put_index-requires-clause-takes : goal.put_index-requires-clause-takes
put_index-requires-clause-takes g c =
    let put = c.loop-j.invariant c.requires.space.0 c.requires.space.1 in
    takes_still (g.T.PageStore.told c.args.store.now) (g.T.PageStore.told c.loop-j.store)
    c.args.self.now.plan.now.sizes.items put.others.sizes.size c.requires.takes

pub returns-in_err-put_index : goal.returns-in_err-put_index
returns-in_err-put_index g c = λ rows is.
    let r = err_from_is_err_and c.from_residual-in_err-put_index.result
    c.from_residual-in_err-put_index.ensures.1 in
    let same = ap length c.indexes-j-end.ensures.same in
    let inside : c.loop-j.j < length c.args.self.now.schema.now.indexes = omega (arith, same, c.loop-j-test.true) in
    rw (r.1, r.2)
    (next_failed g.T.PageStore (index_pages c.args.self.now.schema.now rows)
    (length c.args.self.now.schema.now.indexes) c.args.store.now c.loop-j.store c.put_index.new.store c.loop-j.j
    c.in_err-put_index.field-0.0 inside (c.loop-j.invariant rows is) (c.in_err-put_index.ensures rows is))

pub loop-j-preserved : goal.loop-j-preserved
loop-j-preserved g c = λ rows is.
    let same = ap length c.indexes-j-end.ensures.same in
    let inside : c.loop-j.j < length c.args.self.now.schema.now.indexes = omega (arith, same, c.loop-j-test.true) in
    next_put g.T.PageStore (index_pages c.args.self.now.schema.now rows) (length c.args.self.now.schema.now.indexes)
    (trees_one c.laws_below.ensures c.args.self.now rows is) c.args.store.now c.loop-j.store c.put_index.new.store
    c.loop-j.j inside (c.loop-j.invariant rows is)
    (all_put g.T.PageStore c.loop-j.store c.put_index.new.store
    (index_pages c.args.self.now.schema.now rows c.loop-j.j) c.in_ok-put_index.field-0
    (c.in_ok-put_index.ensures rows is))

pub returns : goal.returns
returns g c = λ rows is.
    let same = ap length c.indexes-j-end.ensures.same in
    let all : c.loop-j.j ≡ length c.args.self.now.schema.now.indexes = omega (
      arith,
      same,
      c.loop-j-test.false,
      c.loop-j.auto.j-end,
    ) in
    puts_all g.T.PageStore c.args.store.now c.loop-j.store (trees_pages c.args.self.now.schema.now rows) tt
    (subst (λ (j : ℕ). ArePut g.T.PageStore c.args.store.now c.loop-j.store
    (flat_map (index_pages c.args.self.now.schema.now rows) (range_with_len 0 j))) all (c.loop-j.invariant rows is))
