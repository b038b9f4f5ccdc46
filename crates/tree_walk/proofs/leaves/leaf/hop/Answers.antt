use Rattle.std.proofs.Common.{◌≡◌, ◌∙◌, sym, refl, arith}
use Rattle.page_source.proofs.Told.{if_told, map_told}
use Rattle.tree_walk.specs.Index.{index_of}
use Rattle.tree_walk.proofs.LeafFacts.{last_leaf, fetches_end, fetches_more, next_within, next_on}
use Rattle.tree_walk.proofs.leaves.leaf.hop.Goals as goal

pub returns-then-leaf-gt0-clause-exact : goal.returns-then-leaf-gt0-clause-exact
returns-then-leaf-gt0-clause-exact g c =
    if_told (g.S.PageSource.content c.args.source.now)
    (λ file root fields node i w o.
    let f = fetches_end (index_of file root fields node) w c.args.leaf.now i o
    (sym c.read_be-number.ensures.number ∙ c.if-number.true) in
    let h = c.if-leaf-gt0.true in
    absurd (omega arith))

pub returns-then-number-clause-exact : goal.returns-then-number-clause-exact
returns-then-number-clause-exact g c =
    if_told (g.S.PageSource.content c.args.source.now)
    (λ file root fields node i w o. last_leaf (index_of file root fields node) w c.args.leaf.now i o
    (sym c.read_be-number.ensures.number ∙ c.if-number.true))

pub returns-then-leaf-eq0-clause-exact : goal.returns-then-leaf-eq0-clause-exact
returns-then-leaf-eq0-clause-exact g c =
    if_told (g.S.PageSource.content c.args.source.now)
    (λ file root fields node i w o.
    let f = fetches_more (index_of file root fields node) w c.args.leaf.now i o c.read_be-number.result
    c.read_be-number.ensures.number c.if-number.false in
    let h = c.if-leaf-eq0.true in
    absurd (omega arith))

pub open-requires-clause-within : goal.open-requires-clause-within
open-requires-clause-within g c =
    map_told (g.S.PageSource.content c.args.source.now)
    (λ file r. next_within (index_of file r.root r.fields r.node) r.walked c.args.leaf.now r.i r.on
    c.read_be-number.result c.read_be-number.ensures.number c.if-number.false)
    c.requires.reads

pub returns-clause-exact : goal.returns-clause-exact
returns-clause-exact g c =
    map_told (g.S.PageSource.content c.args.source.now)
    (λ file p root fields node i w o. next_on (index_of file root fields node) w c.args.leaf.now i o
    c.read_be-number.result c.read_be-number.ensures.number c.if-number.false c.open.new.leaf p
    c.in_ok-open.ensures.number c.in_ok-open.ensures.fetches)
    c.in_ok-open.ensures.page
