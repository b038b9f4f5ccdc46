use Rattle.std.proofs.Common.{arith}
use Rattle.std.proofs.lemmas.Result.{err_from_is_err_and}
use Rattle.page_source.proofs.Told.{map_told, map_told2, map_told3}
use Rattle.key_lookup.specs.Tree.{index_in}
use Rattle.key_lookup.proofs.WaySteps.{due_beyond, due_halts, due_breaks, due_holds}
use Rattle.offpage_chain.proofs.Places.{size_is}
use Rattle.key_lookup.proofs.way.check_next.Goals as goal

pub returns-then-n-tree-clause-exact : goal.returns-then-n-tree-clause-exact
returns-then-n-tree-clause-exact g c =
    map_told (g.S.PageSource.content c.args.source.now)
    (λ file has key depth is. due_beyond (index_in file c.args.tree.now) key depth c.args.walk.now c.args.due is
    (omega (arith, size_is file c.args.tree.now.header.now has, c.if-n-tree.true)))
    c.requires.ready.header

pub returns-in_err-fetch_framed-clause-exact : goal.returns-in_err-fetch_framed-clause-exact
returns-in_err-fetch_framed-clause-exact g c =
    let r = err_from_is_err_and c.from_residual.result c.from_residual.ensures.1 in
    rw (r.1, r.2) (map_told2 (g.S.PageSource.content c.args.source.now)
    (λ file has x key depth is. due_halts (index_in file c.args.tree.now) key depth c.args.walk.now c.args.due is
    c.in_err-fetch_framed.field-0.0
    (omega (arith, size_is file c.args.tree.now.header.now has, c.if-n-tree.false)) x)
    c.requires.ready.header c.in_err-fetch_framed.ensures.exact)

pub returns-in_err-check_in_hand-clause-exact : goal.returns-in_err-check_in_hand-clause-exact
returns-in_err-check_in_hand-clause-exact g c =
    let r = err_from_is_err_and c.from_residual-in_err-check_in_hand.result
    c.from_residual-in_err-check_in_hand.ensures.1 in
    rw (r.1, r.2) (map_told3 (g.S.PageSource.content c.args.source.now)
    (λ file has x page key depth is. due_breaks (index_in file c.args.tree.now) key depth c.args.walk.now c.args.due is
    c.in_err-check_in_hand.field-0.0 c.fetch_framed.new.page c.fields_on.result.now
    (omega (arith, size_is file c.args.tree.now.header.now has, c.if-n-tree.false)) x page c.fields_on.ensures
    c.in_err-check_in_hand.ensures.exact)
    c.requires.ready.header c.in_ok-fetch_framed.ensures.exact c.in_ok-fetch_framed.ensures.page)

pub returns-clause-exact : goal.returns-clause-exact
returns-clause-exact g c =
    map_told3 (g.S.PageSource.content c.args.source.now)
    (λ file has x page key depth is. due_holds (index_in file c.args.tree.now) key depth c.args.walk.now c.args.due is
    c.fetch_framed.new.page c.fields_on.result.now
    (omega (arith, size_is file c.args.tree.now.header.now has, c.if-n-tree.false)) x page c.fields_on.ensures
    c.in_ok-check_in_hand.ensures.exact)
    c.requires.ready.header c.in_ok-fetch_framed.ensures.exact c.in_ok-fetch_framed.ensures.page
