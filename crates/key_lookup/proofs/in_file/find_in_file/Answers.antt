use Rattle.std.proofs.Common.{subst, arith}
use Rattle.std.proofs.lemmas.Result.{err_from_is_err_and}
use Rattle.page_source.proofs.Told.{if_told, map_told, map_told2}
use Rattle.tree_walk.specs.Index.{Index, index_of}
use Rattle.key_lookup.specs.LookUp.{IsFound}
use Rattle.key_lookup.proofs.Finds.{index_same, in_head, in_look_up, holds, all_steps}
use Rattle.key_lookup.proofs.in_file.find_in_file.Goals as goal

pub returns-in_err-header-clause-exact : goal.returns-in_err-header-clause-exact
returns-in_err-header-clause-exact g c =
    let r = err_from_is_err_and c.from_residual.result c.from_residual.ensures.1 in
    rw (r.1, r.2)
    (map_told (g.S.PageSource.content c.args.source.now)
    (λ file at. in_head file c.args.schema.now c.args.key.now c.flags.result c.flags.ensures
    c.in_err-header.field-0.0 at)
    c.in_err-header.ensures.exact)

pub returns-in_err-find_and_check-clause-exact : goal.returns-in_err-find_and_check-clause-exact
returns-in_err-find_and_check-clause-exact g c =
    let r = err_from_is_err_and c.from_residual-in_err-find_and_check.result
    c.from_residual-in_err-find_and_check.ensures.1 in
    let at = rw c.in_ok-header.ensures.over.same at c.in_err-find_and_check.ensures.exact in
    rw (r.1, r.2)
    (map_told2 (g.S.PageSource.content c.args.source.now)
    (λ file head at. in_look_up file c.args.schema.now c.args.key.now c.flags.result c.flags.ensures
    (index_of file c.root_of.result c.args.room.now.leaf c.args.room.now.node)
    (index_same file c.args.schema.now c.root_of.result c.args.room.now.leaf c.args.room.now.node c.root_of.ensures
    c.requires.room.leaf c.requires.room.node) head c.in_err-find_and_check.field-0.0 at)
    c.in_ok-header.ensures.exact at)

pub returns-clause-exact : goal.returns-clause-exact
returns-clause-exact g c =
    let at = rw c.in_ok-header.ensures.over.same at c.in_ok-find_and_check.ensures.exact in
    map_told2 (g.S.PageSource.content c.args.source.now)
    (λ file head at. holds file c.args.schema.now c.args.key.now c.flags.result c.flags.ensures
    (index_of file c.root_of.result c.args.room.now.leaf c.args.room.now.node)
    (index_same file c.args.schema.now c.root_of.result c.args.room.now.leaf c.args.room.now.node c.root_of.ensures
    c.requires.room.leaf c.requires.room.node) head at)
    c.in_ok-header.ensures.exact at

pub returns-clause-found : goal.returns-clause-found
returns-clause-found g c =
    let at = rw c.in_ok-header.ensures.over.same at c.in_ok-find_and_check.ensures.found in
    map_told (g.S.PageSource.content c.args.source.now)
    (λ file found. subst (λ (i : Index). IsFound i c.args.key.now c.find_and_check.new.walk.child
    c.in_ok-find_and_check.field-0)
    (index_same file c.args.schema.now c.root_of.result c.args.room.now.leaf c.args.room.now.node c.root_of.ensures
    c.requires.room.leaf c.requires.room.node) found)
    at

pub returns-in_err-header-clause-steps_if_told : goal.returns-in_err-header-clause-steps_if_told
returns-in_err-header-clause-steps_if_told g c =
    if_told (g.S.PageSource.content c.args.source.now) (λ file. omega (arith, c.check_head.ensures.cost))

pub returns-in_err-marks-clause-steps_if_told : goal.returns-in_err-marks-clause-steps_if_told
returns-in_err-marks-clause-steps_if_told g c =
    if_told (g.S.PageSource.content c.args.source.now) (λ file. omega (arith, c.check_head.ensures.cost))

pub returns-in_err-find_and_check-clause-steps_if_told : goal.returns-in_err-find_and_check-clause-steps_if_told
returns-in_err-find_and_check-clause-steps_if_told g c =
    let few = rw c.in_ok-header.ensures.over.same at c.find_and_check.ensures.steps_if_told in
    map_told (g.S.PageSource.content c.args.source.now)
    (λ file few. all_steps file c.args.schema.now c.args.key.now
    (index_of file c.root_of.result c.args.room.now.leaf c.args.room.now.node) c.args.steps.now c.check_head.new.steps
    c.find_and_check.new.steps
    (index_same file c.args.schema.now c.root_of.result c.args.room.now.leaf c.args.room.now.node c.root_of.ensures
    c.requires.room.leaf c.requires.room.node) c.check_head.ensures.cost few)
    few

pub returns-clause-steps_if_told : goal.returns-clause-steps_if_told
returns-clause-steps_if_told g c =
    let few = rw c.in_ok-header.ensures.over.same at c.find_and_check.ensures.steps_if_told in
    map_told (g.S.PageSource.content c.args.source.now)
    (λ file few. all_steps file c.args.schema.now c.args.key.now
    (index_of file c.root_of.result c.args.room.now.leaf c.args.room.now.node) c.args.steps.now c.check_head.new.steps
    c.find_and_check.new.steps
    (index_same file c.args.schema.now c.root_of.result c.args.room.now.leaf c.args.room.now.node c.root_of.ensures
    c.requires.room.leaf c.requires.room.node) c.check_head.ensures.cost few)
    few
