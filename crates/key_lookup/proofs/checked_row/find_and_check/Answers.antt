use Rattle.std.proofs.Common.{refl, arith}
use Rattle.std.proofs.lemmas.Result.{err_from_is_err_and}
use Rattle.page_source.proofs.Told.{map_told, map_told4, map_told5}
use Rattle.key_lookup.specs.Tree.{index_in}
use Rattle.key_lookup.proofs.Down.{held_by}
use Rattle.key_lookup.proofs.LookUps.{look_pages, look_halts, look_holds}
use Rattle.key_lookup.proofs.checked_row.find_and_check.Goals as goal

pub returns-in_err-pages-clause-exact : goal.returns-in_err-pages-clause-exact
returns-in_err-pages-clause-exact g c =
    let r = err_from_is_err_and c.from_residual-in_err-pages.result c.from_residual-in_err-pages.ensures.1 in
    let way = c.in_ok-number.ensures in
    let held = held_by c.find_leaf.new.walk.child c.args.tree.now.leaf.now c.in-Some.origin c.again.new.self
    c.again.result c.in-Some.ensures.record c.again.ensures.exact.1 c.again.ensures.read in
    let checks = rw way.over.same at c.in_err-pages.ensures.checks.exact in
    rw (r.1, r.2) (map_told4 (g.S.PageSource.content c.args.source.now)
    (λ file all leaf page x.
    let index = index_in file c.args.tree.now in
    look_halts index c.args.key.now c.in_ok-number.number c.in-Some.origin c.again.new.self.origin
    c.find_leaf.new.walk.child c.args.marks.now all leaf page (c.in-Some.ensures.exact index c.in_ok-number.number page
    refl) held.stands c.requires.fresh c.in_err-pages.field-0.0 x)
    way.exact way.leaf way.page checks)

pub returns-in_err-number-clause-steps_if_told : goal.returns-in_err-number-clause-steps_if_told
returns-in_err-number-clause-steps_if_told g c =
    map_told (g.S.PageSource.content c.args.source.now) (λ file few. omega (arith, few))
    c.find_leaf.ensures.steps_if_told

pub returns-in_default-clause-steps_if_told : goal.returns-in_default-clause-steps_if_told
returns-in_default-clause-steps_if_told g c =
    map_told (g.S.PageSource.content c.args.source.now) (λ file few. omega (arith, few))
    c.find_leaf.ensures.steps_if_told

pub returns-in_err-pages-clause-steps_if_told : goal.returns-in_err-pages-clause-steps_if_told
returns-in_err-pages-clause-steps_if_told g c =
    let way = c.in_ok-number.ensures in
    let held = held_by c.find_leaf.new.walk.child c.args.tree.now.leaf.now c.in-Some.origin c.again.new.self
    c.again.result c.in-Some.ensures.record c.again.ensures.exact.1 c.again.ensures.read in
    let few = rw way.over.same at c.check_row_values.ensures.steps_if_told in
    map_told5 (g.S.PageSource.content c.args.source.now)
    (λ file all leaf page most few.
    let index = index_in file c.args.tree.now in
    let pages = look_pages index c.args.key.now c.in_ok-number.number c.in-Some.origin c.again.new.self.origin
    c.find_leaf.new.walk.child c.args.marks.now all leaf page (c.in-Some.ensures.exact index c.in_ok-number.number page
    refl) held.stands c.requires.fresh in
    omega (arith, pages, most, few))
    way.exact way.leaf way.page c.find_leaf.ensures.steps_if_told few

pub returns-clause-steps_if_told : goal.returns-clause-steps_if_told
returns-clause-steps_if_told g c =
    let way = c.in_ok-number.ensures in
    let held = held_by c.find_leaf.new.walk.child c.args.tree.now.leaf.now c.in-Some.origin c.again.new.self
    c.again.result c.in-Some.ensures.record c.again.ensures.exact.1 c.again.ensures.read in
    let few = rw way.over.same at c.check_row_values.ensures.steps_if_told in
    map_told5 (g.S.PageSource.content c.args.source.now)
    (λ file all leaf page most few.
    let index = index_in file c.args.tree.now in
    let pages = look_pages index c.args.key.now c.in_ok-number.number c.in-Some.origin c.again.new.self.origin
    c.find_leaf.new.walk.child c.args.marks.now all leaf page (c.in-Some.ensures.exact index c.in_ok-number.number page
    refl) held.stands c.requires.fresh in
    omega (arith, pages, most, few))
    way.exact way.leaf way.page c.find_leaf.ensures.steps_if_told few

pub returns-clause-exact : goal.returns-clause-exact
returns-clause-exact g c =
    let way = c.in_ok-number.ensures in
    let held = held_by c.find_leaf.new.walk.child c.args.tree.now.leaf.now c.in-Some.origin c.again.new.self
    c.again.result c.in-Some.ensures.record c.again.ensures.exact.1 c.again.ensures.read in
    let checks = rw way.over.same at c.in_ok-pages.ensures.checks.exact in
    map_told4 (g.S.PageSource.content c.args.source.now)
    (λ file all leaf page x.
    let index = index_in file c.args.tree.now in
    look_holds index c.args.key.now c.in_ok-number.number c.in-Some.origin c.again.new.self.origin
    c.find_leaf.new.walk.child c.args.marks.now all leaf page (c.in-Some.ensures.exact index c.in_ok-number.number page
    refl) held.stands c.requires.fresh x)
    way.exact way.leaf way.page checks
