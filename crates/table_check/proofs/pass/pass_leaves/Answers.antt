use Rattle.std.proofs.Common.{◌∙◌, Bool, Ok, arith, refl, ap, suc}
use Rattle.std.proofs.lemmas.Result.{err_from_is_err_and}
use Rattle.page_source.proofs.Told.{if_told, map_told2}
use Rattle.tree_walk.specs.Index.{index_of}
use Rattle.table_check.proofs.Progress.{over_both, halt_as}
use Rattle.table_check.proofs.LeafPass.{none_came, one_came, none_follows, come_halts, taken_more, taken_all}
use Rattle.table_check.proofs.LeafPass.{halts_nowhere, stays}
use Rattle.table_check.proofs.pass.pass_leaves.Goals as goal

pub loop-init : goal.loop-init
loop-init g c = record {
  same = refl;
  later = omega arith;
  asked = omega arith;
  goes_on = c.requires.goes_on;
  spent = refl;
  reads = c.requires.reads;
  told = if_told (g.S.PageSource.content c.args.source.now) (λ file root fields node i walked has. (i, has));
  came = λ n is. none_came n c.args.cursor.now.leaf c.args.cursor.now.last is;
}

pub next_leaf-requires-clause-reads : goal.next_leaf-requires-clause-reads
next_leaf-requires-clause-reads g c = rw c.loop.invariant.same c.loop.invariant.reads

pub returns-in_err-next_leaf-clause-exact : goal.returns-in_err-next_leaf-clause-exact
returns-in_err-next_leaf-clause-exact g c =
    let i = c.loop.invariant in
    let found = rw i.same at c.in_err-next_leaf.ensures.exact in
    let r = err_from_is_err_and c.from_residual.result c.from_residual.ensures.1 in
    rw (r.1, r.2)
    (map_told2 (g.S.PageSource.content c.args.source.now)
    (λ file t f root fields node j walked has.
    let some = t root fields node j walked has in
    halts_nowhere (Unit {0})
    (index_of file root fields node) some.0 c.in_err-next_leaf.field-0.0 c.next_leaf.new.self.leaf
    (f root fields node some.0 walked some.1))
    i.told found)

pub returns-in_err-next_leaf-clause-hops : goal.returns-in_err-next_leaf-clause-hops
returns-in_err-next_leaf-clause-hops g c =
    let r = err_from_is_err_and c.from_residual.result c.from_residual.ensures.1 in
    rw (r.1, r.2)
    (λ n is. come_halts (Unit {0}) n c.args.cursor.now.leaf c.loop.cursor.leaf c.next_leaf.new.self.leaf
    c.loop.cursor.last
    c.in_err-next_leaf.field-0.0 (c.loop.invariant.came n is) c.in_err-next_leaf.ensures.hops)

pub returns-in_err-next_leaf-clause-keeps : goal.returns-in_err-next_leaf-clause-keeps
returns-in_err-next_leaf-clause-keeps g c =
    let i = c.loop.invariant in
    let r = err_from_is_err_and c.from_residual.result c.from_residual.ensures.1 in
    rw (r.1, r.2)
    (over_both _ i.same i.later i.asked (halt_as c.in_err-next_leaf.field-0.0) c.in_err-next_leaf.ensures.keeps)

pub returns-in_err-next_leaf-clause-steps : goal.returns-in_err-next_leaf-clause-steps
returns-in_err-next_leaf-clause-steps g c = c.next_leaf.ensures.steps ∙ c.loop.invariant.spent

pub loop-smaller : goal.loop-smaller
loop-smaller g c =
    let fewer = c.in_ok-next_leaf.ensures.fewer (ap (λ (b : Bool). Ok b) c.if-branch.true) in
    omega (arith, fewer)

pub loop-preserved : goal.loop-preserved
loop-preserved g c =
    let i = c.loop.invariant in
    let o = g.S.PageSource.content c.args.source.now in
    let found = rw (c.if-branch.true, i.same) at c.in_ok-next_leaf.ensures.exact in
    let last = c.in_ok-next_leaf.ensures.last (ap (λ (b : Bool). Ok b) c.if-branch.true) in
    let hops = rw c.if-branch.true at c.in_ok-next_leaf.ensures.hops in
    record {
      same = c.next_leaf.ensures.keeps.same ∙ i.same;
      later = omega (arith, i.later, c.next_leaf.ensures.keeps.cause.later);
      asked = omega (arith, i.asked, c.next_leaf.ensures.keeps.asked);
      goes_on = rw c.if-branch.true at c.in_ok-next_leaf.ensures.ended;
      spent = c.next_leaf.ensures.steps ∙ i.spent;
      reads = map_told2 o
          (λ file r f. record {
            root = r.root;
            fields = r.fields;
            node = r.node;
            taken = suc r.taken;
            walked = r.walked;
            has = taken_more (index_of file r.root r.fields r.node) c.next_leaf.new.self.leaf c.next_leaf.new.self.last
                r.taken (f r.root r.fields r.node r.taken r.walked r.has) last;
          })
          i.reads found;
      told = map_told2 o
          (λ file t f root fields node j walked has.
          let some = t root fields node j walked has in (
            suc some.0,
            taken_more (index_of file root fields node) c.next_leaf.new.self.leaf c.next_leaf.new.self.last
                some.0 (f root fields node some.0 walked some.1) last,
          ))
          i.told found;
      came = λ n is. one_came n c.args.cursor.now.leaf c.loop.cursor.leaf c.next_leaf.new.self.leaf c.loop.cursor.last
          c.next_leaf.new.self.last (i.came n is) hops last;
    }

pub returns-clause-exact : goal.returns-clause-exact
returns-clause-exact g c =
    let i = c.loop.invariant in
    let found = rw (c.if-branch.false, i.same) at c.in_ok-next_leaf.ensures.exact in
    let hops = rw c.if-branch.false at c.in_ok-next_leaf.ensures.hops in
    map_told2 (g.S.PageSource.content c.args.source.now)
    (λ file t f root fields node j walked has.
    let some = t root fields node j walked has in
    taken_all (index_of file root fields node) c.loop.cursor.leaf c.next_leaf.new.self.leaf c.loop.cursor.last some.0
    walked some.1 (f root fields node some.0 walked some.1)
    (stays c.loop.cursor.leaf c.next_leaf.new.self.leaf c.loop.cursor.last hops))
    i.told found

pub returns-clause-hops : goal.returns-clause-hops
returns-clause-hops g c =
    let hops = rw c.if-branch.false at c.in_ok-next_leaf.ensures.hops in
    λ n is. none_follows n c.args.cursor.now.leaf c.loop.cursor.leaf c.next_leaf.new.self.leaf c.loop.cursor.last
    (c.loop.invariant.came n is) hops

pub returns-clause-all : goal.returns-clause-all
returns-clause-all g c = c.in_ok-next_leaf.ensures.all (ap (λ (b : Bool). Ok b) c.if-branch.false)

pub returns-clause-keeps : goal.returns-clause-keeps
returns-clause-keeps g c =
    let i = c.loop.invariant in
    over_both _ i.same i.later i.asked (λ e. absurd (cc)) c.next_leaf.ensures.keeps

pub returns-clause-steps : goal.returns-clause-steps
returns-clause-steps g c = c.next_leaf.ensures.steps ∙ c.loop.invariant.spent
