use Rattle.std.proofs.Common.{◌≡◌, ◌∙◌, sym, refl, arith, subst, Ok, true}
use Rattle.page_source.proofs.Told.{if_told, map_told}
use Rattle.tree_walk.specs.Index.{index_of}
use Rattle.tree_walk.specs.Leaf.{FindsLeaf}
use Rattle.tree_walk.proofs.LeafFacts.{take_start, take_on, start_within, start_on, start_fetches}
use Rattle.tree_walk.specs.Hops.{Hops}
use Rattle.tree_walk.proofs.HopFacts.{due_first, due_next}
use Rattle.tree_walk.proofs.leaves.leaf.take.Goals as goal

pub hop-requires : goal.hop-requires
hop-requires g c = record {
  reads = map_told (g.S.PageSource.content c.args.source.now)
      (λ file r.
      let o = take_on (index_of file r.root r.fields r.node) r.walked c.args.leaf.now c.args.last r.taken
      c.if-last-ge-INFIMUM.true r.has in
      record { root = r.root; fields = r.fields; node = r.node; i = o.0; walked = r.walked; on = o.1.1 })
      c.requires.reads;
}

pub returns-then-last-ge-INFIMUM-clause-exact : goal.returns-then-last-ge-INFIMUM-clause-exact
returns-then-last-ge-INFIMUM-clause-exact g c =
    map_told (g.S.PageSource.content c.args.source.now)
    (λ file x root fields node i w h.
    let o = take_on (index_of file root fields node) w c.args.leaf.now c.args.last i c.if-last-ge-INFIMUM.true h in
    subst (λ k. FindsLeaf (index_of file root fields node) k c.hop.result c.hop.new.leaf) (sym o.1.0)
    (x root fields node o.0 w o.1.1))
    c.hop.ensures.exact

pub returns-then-leaf-eq0-clause-exact : goal.returns-then-leaf-eq0-clause-exact
returns-then-leaf-eq0-clause-exact g c =
    if_told (g.S.PageSource.content c.args.source.now)
    (λ file root fields node i w h.
    let s = take_start (index_of file root fields node) w c.args.leaf.now c.args.last i c.if-last-ge-INFIMUM.false h in
    let f = start_fetches (index_of file root fields node) w c.args.leaf.now s.1 in
    let z = c.if-leaf-eq0.true in
    absurd (omega arith))

pub open-requires-clause-within : goal.open-requires-clause-within
open-requires-clause-within g c =
    map_told (g.S.PageSource.content c.args.source.now)
    (λ file r. start_within (index_of file r.root r.fields r.node) r.walked c.args.leaf.now
    (take_start (index_of file r.root r.fields r.node) r.walked c.args.leaf.now c.args.last r.taken
    c.if-last-ge-INFIMUM.false r.has).1)
    c.requires.reads

pub returns-clause-exact : goal.returns-clause-exact
returns-clause-exact g c =
    map_told (g.S.PageSource.content c.args.source.now)
    (λ file p root fields node i w h.
    let s = take_start (index_of file root fields node) w c.args.leaf.now c.args.last i c.if-last-ge-INFIMUM.false h in
    subst (λ k. FindsLeaf (index_of file root fields node) k (Ok true) c.open.new.leaf) (sym s.0)
    (start_on (index_of file root fields node) w c.args.leaf.now c.open.new.leaf s.1 p c.in_ok-open.ensures.number
    c.in_ok-open.ensures.fetches))
    c.in_ok-open.ensures.page

pub returns-then-last-ge-INFIMUM-clause-hops : goal.returns-then-last-ge-INFIMUM-clause-hops
returns-then-last-ge-INFIMUM-clause-hops g c = λ n d.
    subst (λ k. Hops k c.args.leaf.now c.hop.new.leaf c.hop.result)
    (sym (due_next c.args.leaf.now c.args.last n c.if-last-ge-INFIMUM.true d)) c.hop.ensures.hops

pub returns-clause-hops : goal.returns-clause-hops
returns-clause-hops g c = λ n d. (
  c.in_ok-open.ensures.number ∙ sym (due_first c.args.leaf.now c.args.last n c.if-last-ge-INFIMUM.false d),
  c.in_ok-open.ensures.fetches,
)
