use Rattle.std.proofs.Common.{◌≡◌, ℕ, List, [], ◌∷◌, ◌++◌, length, ap, ◌∙◌, subst, arith, length-append}
use Rattle.std.proofs.lemmas.Result.{err_from_is_err_and}
use Rattle.page_source.proofs.Told.{map_told, map_told2, map_told3, map_told4}
use Rattle.tree_walk.specs.declared.ends.TreeEnds.{TreeEnds}
use Rattle.page_source.specs.Verdict.{AllBelow}
use Rattle.table_check.specs.Taken.{AreWalked, AreEnds}
use Rattle.table_check.specs.Trees.{index_count, IndexCheck}
use Rattle.table_check.proofs.TreeSteps.{each_stops, walked_first, walked_more, ends_none, ends_more, tree_leaves_more}
use Rattle.table_check.proofs.trees.walk_indexes.Goals as goal

pub returns-in_err-clustered-clause-exact : goal.returns-in_err-clustered-clause-exact
returns-in_err-clustered-clause-exact g c =
    let r = err_from_is_err_and c.from_residual-in_err-clustered.result c.from_residual-in_err-clustered.ensures.1 in
    rw (r.1, r.2)
    (map_told (g.S.PageSource.content c.args.source.now)
    (λ file at. each_stops (index_count c.args.schema.now) 0
    (IndexCheck file c.args.schema.now) c.in_err-clustered.field-0.0
    (omega (arith, c.indexes-count.ensures.table.clustered)) (λ j below. absurd (omega (arith, below))) at)
    c.in_err-clustered.ensures.exact)

pub loop-j-init : goal.loop-j-init
loop-j-init g c =
    let first_list : c.push.new.list ≡ [] ++ c.in_ok-clustered.clustered ∷ [] =
    c.in_ok-push.ensures.ends
    ∙ ap (λ (list : List TreeEnds). list ++ c.in_ok-clustered.clustered ∷ []) c.requires.none in
    let first_leaves = tree_leaves_more [] c.push.new.list c.in_ok-clustered.clustered first_list in record {
      same = c.in_ok-clustered.ensures.over.same;
      later = c.in_ok-clustered.ensures.over.cause.later;
      asked = c.in_ok-clustered.ensures.over.asked;
      members = c.in_ok-clustered.ensures.members;
      segments = c.in_ok-clustered.ensures.segments;
      room = c.in_ok-clustered.ensures.room;
      leaves = record {
        fewer = omega (arith, first_leaves, c.in_ok-clustered.ensures.leaves.fewer);
        cost = omega (arith, first_leaves, c.in_ok-clustered.ensures.leaves.cost);
      };
      count = ap length first_list;
      least = omega (arith, first_leaves);
      ends =
          map_told2 (g.S.PageSource.content c.args.source.now)
          (λ file walked ends. ends_more file c.args.schema.now 0 [] c.push.new.list c.in_ok-clustered.clustered
          (ends_none file c.args.schema.now) first_list walked ends)
          c.in_ok-clustered.ensures.walked c.in_ok-clustered.ensures.ends;
      told =
          map_told4 (g.S.PageSource.content c.args.source.now)
          (λ file check taken walked ends. walked_first file c.args.schema.now c.walk_index.new.taken
          c.in_ok-clustered.clustered c.args.leaf_segments.now.items c.push.new.segments.items c.requires.empty
          c.in_ok-push.ensures.segments check
          taken walked ends)
          c.in_ok-clustered.ensures.exact c.in_ok-clustered.ensures.taken c.in_ok-clustered.ensures.walked
          c.in_ok-clustered.ensures.ends;
    }

pub returns-in_err-ends-clause-exact : goal.returns-in_err-ends-clause-exact
returns-in_err-ends-clause-exact g c =
    let r = err_from_is_err_and c.from_residual-in_err-ends.result c.from_residual-in_err-ends.ensures.1 in
    let at = rw c.loop-j.invariant.same at c.in_err-ends.ensures.exact in
    rw (r.1, r.2)
    (map_told2 (g.S.PageSource.content c.args.source.now)
    (λ file are at. each_stops (index_count c.args.schema.now) c.loop-j.j (IndexCheck file c.args.schema.now)
    c.in_err-ends.field-0.0 (omega (arith, c.loop-j-test.true, ap length c.indexes-count.ensures.same)) are.held at)
    c.loop-j.invariant.told at)

pub loop-j-preserved : goal.loop-j-preserved
loop-j-preserved g c =
    let inv = c.loop-j.invariant in
    let check = rw inv.same at c.in_ok-ends.ensures.exact in
    let taken = rw inv.same at c.in_ok-ends.ensures.taken in
    let ends = rw inv.same at c.in_ok-ends.ensures.ends in
    let walked = rw inv.same at c.in_ok-ends.ensures.walked in
    let more = c.in_ok-ends.ensures.leaves in
    let grown = tree_leaves_more c.loop-j.list c.push-in-loop-j.new.list c.in_ok-ends.ends
    c.in_ok-push-2.ensures.ends in
    record {
      same = c.in_ok-ends.ensures.over.same ∙ inv.same;
      later = omega (arith, inv.later, c.in_ok-ends.ensures.over.cause.later);
      asked = omega (arith, inv.asked, c.in_ok-ends.ensures.over.asked);
      members = c.in_ok-ends.ensures.members ∙ inv.members;
      segments = c.in_ok-ends.ensures.segments ∙ inv.segments;
      room = c.in_ok-ends.ensures.room;
      leaves = record {
        fewer = omega (arith, inv.leaves.fewer, more.fewer, grown);
        cost = omega (arith, inv.leaves.cost, more.cost, grown);
      };
      count = omega (
        arith,
        inv.count,
        ap length c.in_ok-push-2.ensures.ends,
        length-append c.loop-j.list (c.in_ok-ends.ends ∷ []),
      );
      least = omega (arith, inv.least, grown);
      ends =
          map_told3 (g.S.PageSource.content c.args.source.now)
          (λ file are walked ends. ends_more file c.args.schema.now c.loop-j.j c.loop-j.list
          c.push-in-loop-j.new.list c.in_ok-ends.ends are c.in_ok-push-2.ensures.ends walked ends)
          inv.ends walked ends;
      told =
          map_told4 (g.S.PageSource.content c.args.source.now)
          (λ file are check taken ends. walked_more file c.args.schema.now c.loop-j.j c.loop-j.taken
          c.walk_index-in-loop-j.new.taken c.in_ok-clustered.clustered
          c.in_ok-ends.ends
          c.loop-j.leaf_segments.items c.push-in-loop-j.new.segments.items are check taken ends
          c.in_ok-push-2.ensures.segments)
          inv.told check taken ends;
    }

pub returns-clause-exact : goal.returns-clause-exact
returns-clause-exact g c =
    let e : c.loop-j.j ≡ index_count c.args.schema.now =
    omega (
      arith,
      c.loop-j-test.false,
      c.loop-j.auto.j-end,
      ap length c.indexes-count.ensures.same,
      c.indexes-count.ensures.table.clustered,
    ) in
    map_told (g.S.PageSource.content c.args.source.now)
    (λ file are. subst (λ (n : ℕ). AllBelow (IndexCheck file c.args.schema.now) n) e are.held) c.loop-j.invariant.told

pub returns-clause-walked : goal.returns-clause-walked
returns-clause-walked g c =
    let e : c.loop-j.j ≡ index_count c.args.schema.now =
    omega (
      arith,
      c.loop-j-test.false,
      c.loop-j.auto.j-end,
      ap length c.indexes-count.ensures.same,
      c.indexes-count.ensures.table.clustered,
    ) in
    map_told (g.S.PageSource.content c.args.source.now)
    (λ file are. subst (λ (n : ℕ). AreWalked file c.args.schema.now n c.loop-j.taken
    c.in_ok-clustered.clustered c.loop-j.leaf_segments.items) e are) c.loop-j.invariant.told

pub returns-clause-ends : goal.returns-clause-ends
returns-clause-ends g c =
    let e : c.loop-j.j ≡ index_count c.args.schema.now =
    omega (
      arith,
      c.loop-j-test.false,
      c.loop-j.auto.j-end,
      ap length c.indexes-count.ensures.same,
      c.indexes-count.ensures.table.clustered,
    ) in
    map_told (g.S.PageSource.content c.args.source.now)
    (λ file are. subst (λ (n : ℕ). AreEnds file c.args.schema.now n c.loop-j.list) e are) c.loop-j.invariant.ends

pub returns-clause-count : goal.returns-clause-count
returns-clause-count g c =
    omega (
      arith,
      c.loop-j.invariant.count,
      c.loop-j-test.false,
      c.loop-j.auto.j-end,
      ap length c.indexes-count.ensures.same,
      c.indexes-count.ensures.table.clustered,
    )
