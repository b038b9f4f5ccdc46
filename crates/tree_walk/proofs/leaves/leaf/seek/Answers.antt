use Rattle.std.proofs.Common.{refl, sym, subst, inl}
use Rattle.std.proofs.lemmas.Result.{err_from_is_err_and}
use Rattle.page_source.proofs.Told.{if_told, map_told, map_told2}
use Rattle.tree_walk.specs.Index.{index_of}
use Rattle.tree_walk.specs.Hops.{GoesByNextFields, failures}
use Rattle.tree_walk.proofs.HopFacts.{come_none, come_failed, come_first, due_first, due_next}
use Rattle.tree_walk.proofs.LeafFacts.{can_start, can_search, start_within, start_before, same_or_next, first_same}
use Rattle.tree_walk.proofs.leaves.leaf.seek.Goals as goal

pub open-requires-clause-within : goal.open-requires-clause-within
open-requires-clause-within g c =
    map_told (g.S.PageSource.content c.args.source.now)
    (λ file r. start_within (index_of file r.root r.fields r.node) r.walked c.args.leaf.now
    (can_start (index_of file r.root r.fields r.node) r.walked c.args.leaf.now c.args.last r.given
    c.if-last-ge-INFIMUM.false r.has).1)
    c.requires.reads

pub search-requires-2-clause-reads : goal.search-requires-2-clause-reads
search-requires-2-clause-reads g c =
    rw c.in_ok-open.ensures.same
    (map_told2 (g.S.PageSource.content c.args.source.now)
    (λ file r p. record {
      root = r.root;
      fields = r.fields;
      node = r.node;
      given = 0;
      walked = r.walked;
      before = start_before (index_of file r.root r.fields r.node) r.walked c.args.leaf.now c.open.new.leaf
          (can_start (index_of file r.root r.fields r.node) r.walked c.args.leaf.now c.args.last r.given
          c.if-last-ge-INFIMUM.false r.has).1 p c.in_ok-open.ensures.number c.in_ok-open.ensures.fetches;
    })
    c.requires.reads c.in_ok-open.ensures.page)

pub returns-then-last-ge-INFIMUM-clause-near : goal.returns-then-last-ge-INFIMUM-clause-near
returns-then-last-ge-INFIMUM-clause-near g c =
    map_told (g.S.PageSource.content c.args.source.now)
    (λ file n root fields node j w h. same_or_next c.args.leaf.now c.search.new.leaf c.args.last
    (n root fields node j w (can_search (index_of file root fields node) w c.args.leaf.now c.args.last j
    c.if-last-ge-INFIMUM.true h)))
    c.search.ensures.near

pub returns-clause-near : goal.returns-clause-near
returns-clause-near g c =
    let n = rw c.in_ok-open.ensures.same at c.search-2.ensures.near in
    map_told2 (g.S.PageSource.content c.args.source.now)
    (λ file n p root fields node j w h. first_same c.args.leaf.now c.open.new.leaf c.search-2.new.leaf
    c.in_ok-open.ensures.number
    (n root fields node 0 w (start_before (index_of file root fields node) w c.args.leaf.now c.open.new.leaf
    (can_start (index_of file root fields node) w c.args.leaf.now c.args.last j c.if-last-ge-INFIMUM.false
    h).1 p c.in_ok-open.ensures.number c.in_ok-open.ensures.fetches)))
    n c.in_ok-open.ensures.page

pub returns-then-leaf-eq0-clause-near : goal.returns-then-leaf-eq0-clause-near
returns-then-leaf-eq0-clause-near g c =
    if_told (g.S.PageSource.content c.args.source.now) (λ file root fields node j w h. inl refl)

pub returns-in_err-open-clause-near : goal.returns-in_err-open-clause-near
returns-in_err-open-clause-near g c =
    if_told (g.S.PageSource.content c.args.source.now) (λ file root fields node j w h. inl c.in_err-open.ensures.stays)

pub returns-then-last-ge-INFIMUM-clause-hops : goal.returns-then-last-ge-INFIMUM-clause-hops
returns-then-last-ge-INFIMUM-clause-hops g c = λ n d.
    subst (λ k. GoesByNextFields k c.args.leaf.now c.search.new.leaf c.search.result)
    (sym (due_next c.args.leaf.now c.args.last n c.if-last-ge-INFIMUM.true d)) c.search.ensures.hops

pub returns-then-leaf-eq0-clause-hops : goal.returns-then-leaf-eq0-clause-hops
returns-then-leaf-eq0-clause-hops g c = λ n d. come_none n c.args.leaf.now

pub returns-in_err-open-clause-hops : goal.returns-in_err-open-clause-hops
returns-in_err-open-clause-hops g c =
    let r = err_from_is_err_and c.from_residual.result c.from_residual.ensures.1 in
    rw (r.1, r.2)
    (λ n d. come_failed n c.args.leaf.now c.args.leaf.now c.open.new.leaf (come_none n c.args.leaf.now)
    c.in_err-open.ensures.stays c.in_err-open.ensures.fetches)

pub returns-clause-hops : goal.returns-clause-hops
returns-clause-hops g c = λ n d.
    subst (λ k. GoesByNextFields k c.args.leaf.now c.search-2.new.leaf c.search-2.result)
    (sym (due_first c.args.leaf.now c.args.last n c.if-last-ge-INFIMUM.false d))
    (come_first c.args.leaf.now c.open.new.leaf c.search-2.new.leaf (failures c.search-2.result)
    c.in_ok-open.ensures.number c.in_ok-open.ensures.fetches c.search-2.ensures.hops)
