use Rattle.std.proofs.Common.{arith, refl, ◌∙◌, ◌-◌}
use Rattle.std.proofs.lemmas.Result.{err_from_is_err_and}
use Rattle.page_source.proofs.Told.{map_told, map_told2, map_told4}
use Rattle.space_audit.specs.Marks.{is_set}
use Rattle.tree_walk.specs.Index.{index_of}
use Rattle.tree_walk.proofs.Rooms.{room_join}
use Rattle.tree_walk.proofs.Root.{tree_first, tree_at, tree_more, tree_halts_at, tree_holds, root_halts}
use Rattle.tree_walk.proofs.tree.walk_tree.Goals as goal

pub returns-in_err-top-clause-exact : goal.returns-in_err-top-clause-exact
returns-in_err-top-clause-exact g c =
    let r = err_from_is_err_and c.from_residual.result c.from_residual.ensures.1 in
    rw (r.1, r.2)
    (map_told (g.S.PageSource.content c.args.source.now)
    (λ file x. root_halts (index_of file c.args.root c.args.leaf.now c.args.node.now) (is_set c.args.marks.now)
    (is_set c.args.named.now) c.in_err-top.field-0.0 x)
    c.in_err-top.ensures.exact)

pub loop-depth-init : goal.loop-depth-init
loop-depth-init g c = record {
  same = c.in_ok-top.ensures.stays.over.same;
  members = c.in_ok-top.ensures.stays.members;
  marked = c.in_ok-top.ensures.stays.marked;
  later = c.in_ok-top.ensures.stays.over.cause.later;
  asked = c.in_ok-top.ensures.stays.over.asked;
  spent = let a = c.in_ok-top.ensures.fewer in let b = c.in_ok-top.ensures.steps in omega arith;
  told =
      map_told2 (g.S.PageSource.content c.args.source.now)
      (λ file t x. tree_first (index_of file c.args.root c.args.leaf.now c.args.node.now) c.in_ok-top.top
      c.args.marks.now c.args.named.now c.check_root.new.marks t x c.in_ok-top.ensures.marked)
      c.in_ok-top.ensures.top c.in_ok-top.ensures.exact;
  fewer = let a = c.in_ok-top.ensures.fewer in omega arith;
  some = omega arith;
  room = c.in_ok-top.ensures.stays.room;
}

pub walk_level-requires-clause-at : goal.walk_level-requires-clause-at
walk_level-requires-clause-at g c =
    rw c.loop-depth.invariant.same
    (map_told2 (g.S.PageSource.content c.args.source.now)
    (λ file a t. tree_at (index_of file c.args.root c.args.leaf.now c.args.node.now) c.in_ok-top.top
    c.loop-depth.depth c.args.marks.now c.args.named.now c.loop-depth.marks c.loop-depth.row t c.args.space.now
    a c.loop-depth-test.true
    _ (c.in_ok-top.top.level - c.loop-depth.depth - 1) c.segment_of.result c.segment_of.ensures)
    c.requires.audit c.loop-depth.invariant.told)

pub returns-in_err-row-clause-exact : goal.returns-in_err-row-clause-exact
returns-in_err-row-clause-exact g c =
    let r = err_from_is_err_and c.from_residual-in_err-row.result c.from_residual-in_err-row.ensures.1 in
    let x = rw c.loop-depth.invariant.same at c.in_err-row.ensures.exact in
    let h = c.loop-depth-test.true in
    rw (r.1, r.2)
    (map_told2 (g.S.PageSource.content c.args.source.now)
    (λ file t x. tree_halts_at (index_of file c.args.root c.args.leaf.now c.args.node.now) c.in_ok-top.top
    c.loop-depth.depth c.args.marks.now c.args.named.now c.loop-depth.marks c.loop-depth.row t
    (c.in_ok-top.top.level - c.loop-depth.depth - 1) (omega arith) c.in_err-row.field-0.0 x)
    c.loop-depth.invariant.told x)

pub loop-depth-preserved : goal.loop-depth-preserved
loop-depth-preserved g c =
    let x = rw c.loop-depth.invariant.same at c.in_ok-row.ensures.exact in
    let m = rw c.loop-depth.invariant.same at c.in_ok-row.ensures.marked in
    let l = rw c.loop-depth.invariant.same at c.in_ok-row.ensures.level in
    let h = c.loop-depth-test.true in
    record {
      same = c.in_ok-row.ensures.stays.over.same ∙ c.loop-depth.invariant.same;
      members = c.in_ok-row.ensures.stays.members ∙ c.loop-depth.invariant.members;
      marked = λ n was. c.in_ok-row.ensures.stays.marked n (c.loop-depth.invariant.marked n was);
      later = let a = c.in_ok-row.ensures.stays.over.cause.later in let b = c.loop-depth.invariant.later in omega arith;
      asked = let a = c.in_ok-row.ensures.stays.over.asked in let b = c.loop-depth.invariant.asked in omega arith;
      spent = let a = c.in_ok-row.ensures.spent in let b = c.loop-depth.invariant.spent in omega arith;
      told =
          map_told4 (g.S.PageSource.content c.args.source.now)
          (λ file t x m l. tree_more (index_of file c.args.root c.args.leaf.now c.args.node.now) c.in_ok-top.top
          c.loop-depth.depth c.args.marks.now c.args.named.now c.loop-depth.marks c.loop-depth.row t
          _ c.in_ok-row.row l refl (omega arith) c.walk_level.new.marks x m)
          c.loop-depth.invariant.told x m l;
      fewer =
          let a = c.in_ok-row.ensures.fewer in
          let b = c.loop-depth.invariant.fewer in
          let s = c.loop-depth.invariant.some in
          omega arith;
      some = c.in_ok-row.ensures.some;
      room = room_join _ _ _ c.loop-depth.invariant.room c.in_ok-row.ensures.stays.room;
    }

pub returns-clause-exact : goal.returns-clause-exact
returns-clause-exact g c =
    map_told (g.S.PageSource.content c.args.source.now)
    (λ file t. tree_holds (index_of file c.args.root c.args.leaf.now c.args.node.now) c.in_ok-top.top
    c.loop-depth.depth c.args.marks.now c.args.named.now c.loop-depth.marks c.loop-depth.row t
    c.loop-depth-test.false
    (let h = c.loop-depth.auto.depth-end in omega arith))
    c.loop-depth.invariant.told

pub returns-clause-walked : goal.returns-clause-walked
returns-clause-walked g c =
    map_told2 (g.S.PageSource.content c.args.source.now)
    (λ file a t. record {
      space = c.args.space.now;
      audit = a;
      taken = is_set c.args.marks.now;
      named = is_set c.args.named.now;
      holds = tree_holds (index_of file c.args.root c.args.leaf.now c.args.node.now) c.in_ok-top.top
          c.loop-depth.depth c.args.marks.now c.args.named.now c.loop-depth.marks c.loop-depth.row t
          c.loop-depth-test.false (let h = c.loop-depth.auto.depth-end in omega arith);
    })
    c.requires.audit c.loop-depth.invariant.told
