use Rattle.std.proofs.Common.{arith}
use Rattle.std.proofs.lemmas.Result.{err_from_is_err_and}
use Rattle.page_source.proofs.Told.{map_told, map_told2, map_told3}
use Rattle.key_lookup.specs.Tree.{index_in}
use Rattle.key_lookup.proofs.WaySteps.{root_beyond, root_halts, root_breaks, root_holds}
use Rattle.offpage_chain.proofs.Places.{size_is}
use Rattle.key_lookup.proofs.way.check_root.Goals as goal

pub returns-then-root-tree-clause-exact : goal.returns-then-root-tree-clause-exact
returns-then-root-tree-clause-exact g c =
    map_told (g.S.PageSource.content c.args.source.now)
    (λ file has key. root_beyond (index_in file c.args.tree.now) key c.at-fault.result c.at-fault.ensures
    (omega (arith, size_is file c.args.tree.now.header.now has, c.if-root-tree.true)))
    c.requires.ready.header

pub returns-in_err-fetch_framed-clause-exact : goal.returns-in_err-fetch_framed-clause-exact
returns-in_err-fetch_framed-clause-exact g c =
    let r = err_from_is_err_and c.from_residual.result c.from_residual.ensures.1 in
    rw (r.1, r.2) (map_told2 (g.S.PageSource.content c.args.source.now)
    (λ file has x key. root_halts (index_in file c.args.tree.now) key c.at-fault.result
    c.in_err-fetch_framed.field-0.0 c.at-fault.ensures
    (omega (arith, size_is file c.args.tree.now.header.now has, c.if-root-tree.false)) x)
    c.requires.ready.header c.in_err-fetch_framed.ensures.exact)

pub returns-in_err-check_in_hand-clause-exact : goal.returns-in_err-check_in_hand-clause-exact
returns-in_err-check_in_hand-clause-exact g c =
    let r = err_from_is_err_and c.from_residual-in_err-check_in_hand.result
    c.from_residual-in_err-check_in_hand.ensures.1 in
    rw (r.1, r.2) (map_told3 (g.S.PageSource.content c.args.source.now)
    (λ file has x page key. root_breaks (index_in file c.args.tree.now) key c.at-fault.result
    c.in_err-check_in_hand.field-0.0 c.fetch_framed.new.page c.fields_on.result.now c.read_be-level.result
    c.read_be.result c.at-fault.ensures
    (omega (arith, size_is file c.args.tree.now.header.now has, c.if-root-tree.false)) x page
    c.read_be-level.ensures.number c.read_be.ensures.number c.fields_on.ensures
    c.in_err-check_in_hand.ensures.exact)
    c.requires.ready.header c.in_ok-fetch_framed.ensures.exact c.in_ok-fetch_framed.ensures.page)

pub returns-clause-exact : goal.returns-clause-exact
returns-clause-exact g c =
    map_told3 (g.S.PageSource.content c.args.source.now)
    (λ file has x page key. root_holds (index_in file c.args.tree.now) key c.at-fault.result
    c.fetch_framed.new.page c.fields_on.result.now c.read_be-level.result
    c.read_be.result c.at-fault.ensures
    (omega (arith, size_is file c.args.tree.now.header.now has, c.if-root-tree.false)) x page
    c.read_be-level.ensures.number c.read_be.ensures.number c.fields_on.ensures
    c.in_ok-check_in_hand.ensures.exact)
    c.requires.ready.header c.in_ok-fetch_framed.ensures.exact c.in_ok-fetch_framed.ensures.page
