use Rattle.std.proofs.Common.{◌≡◌, ◌∙◌, ℕ, ◌+◌, Option, ap, sym, refl, arith}
use Rattle.std.proofs.lemmas.Result.{err_from_is_err_and}
use Rattle.page_source.specs.declared.checks.Halt.TheVariants.{Broken}
use Rattle.page_source.proofs.Told.{if_told, map_told, map_told2, map_told3}
use Rattle.fil_frame.specs.Frame.{next_page}
use Rattle.tree_walk.specs.declared.leaves.leaf.Leaf.{Leaf}
use Rattle.tree_walk.specs.Index.{index_of}
use Rattle.tree_walk.proofs.Alongs.{along_first, along_broken}
use Rattle.tree_walk.proofs.LeafFacts.{row_found, ends_at_supremum, rows_end, no_leaf, next_before, moved_more}
use Rattle.tree_walk.proofs.LeafFacts.{moved_none, breaks_chain, breaks_astray, near_none, near_more, near_hops}
use Rattle.tree_walk.proofs.LeafFacts.{near_still}
use Rattle.tree_walk.proofs.HopFacts.{come_none, come_more, come_halts, hops_still, halts_as}
use Rattle.tree_walk.proofs.leaves.leaf.search.Goals as goal

pub returns-then-next-ge-FIRST_ORIGIN-clause-exact : goal.returns-then-next-ge-FIRST_ORIGIN-clause-exact
returns-then-next-ge-FIRST_ORIGIN-clause-exact g c =
    map_told (g.S.PageSource.content c.args.source.now)
    (λ file t root fields node j w b. row_found (index_of file root fields node) w c.leaves.leaf c.leaves.at j
    c.next_origin-next.result (t root fields node j w b) c.next_origin-next.ensures.value
    c.if-next-ge-FIRST_ORIGIN.true)
    c.leaves.invariant.told

pub returns-then-next-ne-SUPREMUM-clause-exact : goal.returns-then-next-ne-SUPREMUM-clause-exact
returns-then-next-ne-SUPREMUM-clause-exact g c =
    map_told (g.S.PageSource.content c.args.source.now)
    (λ file t root fields node j w b. absurd (c.if-next-ne-SUPREMUM.true
    (ends_at_supremum (index_of file root fields node) w c.leaves.leaf c.leaves.at j c.next_origin-next.result
    (t root fields node j w b) c.next_origin-next.ensures.value c.if-next-ge-FIRST_ORIGIN.false)))
    c.leaves.invariant.told

pub hop-requires : goal.hop-requires
hop-requires g c = record {
  reads = rw c.leaves.invariant.same
      (map_told (g.S.PageSource.content c.args.source.now)
      (λ file r. record {
        root = r.root;
        fields = r.fields;
        node = r.node;
        i = r.before.i;
        walked = r.walked;
        on = r.before.on;
      })
      c.leaves.invariant.reads);
}

pub returns-then-not-found-clause-exact : goal.returns-then-not-found-clause-exact
returns-then-not-found-clause-exact g c =
    let x = rw (c.leaves.invariant.same, c.if-not-found.true) at c.in_ok-found.ensures.exact in
    map_told2 (g.S.PageSource.content c.args.source.now)
    (λ file t x root fields node j w b.
    let d = t root fields node j w b in
    rows_end (index_of file root fields node) w c.leaves.leaf c.leaves.at j c.next_origin-next.result d
    c.next_origin-next.ensures.value c.if-next-ge-FIRST_ORIGIN.false (x root fields node d.i w d.on))
    c.leaves.invariant.told x

pub returns-in_err-found-clause-exact : goal.returns-in_err-found-clause-exact
returns-in_err-found-clause-exact g c =
    let r = err_from_is_err_and c.from_residual.result c.from_residual.ensures.1 in
    let x = rw c.leaves.invariant.same at c.in_err-found.ensures.exact in
    rw (r.1, r.2)
    (map_told2 (g.S.PageSource.content c.args.source.now)
    (λ file t x root fields node j w b.
    let d = t root fields node j w b in
    no_leaf (index_of file root fields node) (d.i + 1) j c.in_err-found.field-0.0 c.hop.new.leaf c.hop.new.leaf
    (x root fields node d.i w d.on))
    c.leaves.invariant.told x)

pub leaves-init : goal.leaves-init
leaves-init g c = record {
  same = refl;
  later = omega arith;
  asked = omega arith;
  spent = refl;
  header = c.requires.header;
  along = c.requires.along;
  reads = c.requires.reads;
  told = if_told (g.S.PageSource.content c.args.source.now) (λ file root fields node j w b. b);
  moved = moved_none c.args.leaf.now;
  came = come_none (next_page c.args.leaf.now.page) c.args.leaf.now;
  near = if_told (g.S.PageSource.content c.args.source.now) (λ file root fields node j w b. near_none c.args.leaf.now
      c.args.from);
}

pub leaves-preserved : goal.leaves-preserved
leaves-preserved g c =
    let i = c.leaves.invariant in
    let x = rw (i.same, c.if-not-found.false) at c.in_ok-found.ensures.exact in
    let h : (c.hop.new.leaf.number ≡ next_page c.leaves.leaf.page)
    × (c.hop.new.leaf.may_fetch + 1 ≡ c.leaves.leaf.may_fetch) =
    rw c.if-not-found.false at c.in_ok-found.ensures.hops in
    record {
      same = c.in_ok-found.ensures.keeps.same ∙ i.same;
      later = omega (arith, i.later, c.in_ok-found.ensures.keeps.cause.later);
      asked = omega (arith, i.asked, c.in_ok-found.ensures.keeps.asked);
      spent = omega (arith, i.spent, c.in_ok-found.ensures.steps);
      header = (omega arith, omega arith);
      along = along_first c.hop.new.leaf.page;
      reads =
          map_told2 (g.S.PageSource.content c.args.source.now)
          (λ file r x. record {
            root = r.root;
            fields = r.fields;
            node = r.node;
            given = r.given;
            walked = r.walked;
            before = next_before (index_of file r.root r.fields r.node) r.walked c.leaves.leaf c.leaves.at r.given
                c.next_origin-next.result r.before c.next_origin-next.ensures.value c.if-next-ge-FIRST_ORIGIN.false
                c.hop.new.leaf (x r.root r.fields r.node r.before.i r.walked r.before.on);
          })
          i.reads x;
      told =
          map_told2 (g.S.PageSource.content c.args.source.now)
          (λ file t x root fields node j w b.
          let d = t root fields node j w b in
          next_before (index_of file root fields node) w c.leaves.leaf c.leaves.at j c.next_origin-next.result d
          c.next_origin-next.ensures.value c.if-next-ge-FIRST_ORIGIN.false c.hop.new.leaf
          (x root fields node d.i w d.on))
          i.told x;
      moved = moved_more c.args.leaf.now c.leaves.leaf c.hop.new.leaf i.moved h.0 h.1;
      came = come_more c.args.leaf.now c.leaves.leaf c.hop.new.leaf i.came h.0 h.1;
      near =
          map_told3 (g.S.PageSource.content c.args.source.now)
          (λ file t x n root fields node j w b.
          let d = t root fields node j w b in
          near_more (index_of file root fields node) w c.args.leaf.now c.leaves.leaf c.hop.new.leaf c.args.from
          c.leaves.at j c.next_origin-next.result d c.next_origin-next.ensures.value
          c.if-next-ge-FIRST_ORIGIN.false (x root fields node d.i w d.on) h.1 (n root fields node j w b))
          i.told x i.near;
    }

pub returns-then-next-ne-SUPREMUM-clause-broken : goal.returns-then-next-ne-SUPREMUM-clause-broken
returns-then-next-ne-SUPREMUM-clause-broken g c = λ fault e.
    breaks_chain c.leaves.leaf c.at.result fault c.at.ensures
    (along_broken c.leaves.leaf.page c.leaves.at c.next_origin-next.result c.leaves.invariant.along
    c.next_origin-next.ensures.value c.if-next-ge-FIRST_ORIGIN.false c.if-next-ne-SUPREMUM.true) e

pub returns-then-next-ge-FIRST_ORIGIN-clause-near : goal.returns-then-next-ge-FIRST_ORIGIN-clause-near
returns-then-next-ge-FIRST_ORIGIN-clause-near g c =
    map_told (g.S.PageSource.content c.args.source.now)
    (λ file n root fields node j w b. near_hops c.args.leaf.now c.leaves.leaf c.args.from c.leaves.at
    c.leaves.invariant.moved (n root fields node j w b))
    c.leaves.invariant.near

pub returns-then-next-ne-SUPREMUM-clause-near : goal.returns-then-next-ne-SUPREMUM-clause-near
returns-then-next-ne-SUPREMUM-clause-near g c =
    map_told (g.S.PageSource.content c.args.source.now)
    (λ file n root fields node j w b. near_hops c.args.leaf.now c.leaves.leaf c.args.from c.leaves.at
    c.leaves.invariant.moved (n root fields node j w b))
    c.leaves.invariant.near

pub returns-then-not-found-clause-near : goal.returns-then-not-found-clause-near
returns-then-not-found-clause-near g c =
    let h : c.hop.new.leaf ≡ c.leaves.leaf = rw c.if-not-found.true at c.in_ok-found.ensures.hops in
    map_told (g.S.PageSource.content c.args.source.now)
    (λ file n root fields node j w b. near_still c.args.leaf.now c.leaves.leaf c.hop.new.leaf c.args.from c.leaves.at
    c.leaves.invariant.moved (ap (λ (l : Leaf). l.number) h) (n root fields node j w b))
    c.leaves.invariant.near

pub returns-in_err-found-clause-near : goal.returns-in_err-found-clause-near
returns-in_err-found-clause-near g c =
    map_told (g.S.PageSource.content c.args.source.now)
    (λ file n root fields node j w b. near_still c.args.leaf.now c.leaves.leaf c.hop.new.leaf c.args.from c.leaves.at
    c.leaves.invariant.moved (hops_still (next_page c.leaves.leaf.page) c.leaves.leaf c.hop.new.leaf
    c.in_err-found.field-0.0 c.in_err-found.ensures.hops) (n root fields node j w b))
    c.leaves.invariant.near

pub returns-in_err-found-clause-hops : goal.returns-in_err-found-clause-hops
returns-in_err-found-clause-hops g c =
    let r = err_from_is_err_and c.from_residual.result c.from_residual.ensures.1 in
    rw (r.1, r.2)
    (come_halts (Option ℕ) (next_page c.args.leaf.now.page) (next_page c.leaves.leaf.page) c.args.leaf.now c.leaves.leaf
    c.hop.new.leaf c.in_err-found.field-0.0 c.leaves.invariant.came c.in_err-found.ensures.hops)

pub returns-in_err-found-clause-broken : goal.returns-in_err-found-clause-broken
returns-in_err-found-clause-broken g c =
    let r = err_from_is_err_and c.from_residual.result c.from_residual.ensures.1 in
    rw (r.1, r.2)
    (λ fault e. breaks_astray c.hop.new.leaf fault
    (c.in_err-found.ensures.broken fault (halts_as c.in_err-found.field-0.0 (Broken fault) e)))

pub returns-then-not-found-clause-moves : goal.returns-then-not-found-clause-moves
returns-then-not-found-clause-moves g c =
    let h : c.hop.new.leaf ≡ c.leaves.leaf = rw c.if-not-found.true at c.in_ok-found.ensures.hops in
    rw h c.leaves.invariant.moved

pub returns-then-not-found-clause-hops : goal.returns-then-not-found-clause-hops
returns-then-not-found-clause-hops g c =
    let h : c.hop.new.leaf ≡ c.leaves.leaf = rw c.if-not-found.true at c.in_ok-found.ensures.hops in
    rw h c.leaves.invariant.came
