use Rattle.std.proofs.Common.{refl, ◌∙◌, arith}
use Rattle.page_source.proofs.Told.{if_told, map_told, map_told3, map_told4}
use Rattle.tree_walk.proofs.Rooms.{room_join}
use Rattle.key_lookup.specs.Tree.{index_in}
use Rattle.key_lookup.proofs.OnWay.{level_most, facts_above, facts_leaf, some_pointer, on_root, on_next, all_hold}
use Rattle.key_lookup.proofs.OnWay.{leaf_is}
use Rattle.key_lookup.proofs.way.find_leaf.Goals as goal

pub loop-due-init : goal.loop-due-init
loop-due-init g c =
    let e = c.in_ok-due.ensures in
    let most = level_most c.check_root.new.walk c.args.tree.now.leaf.now c.args.tree.now.node.now c.in_ok-due.due e.held
    in
    record {
      same = e.over.same;
      later = e.over.cause.later;
      asked = e.over.asked;
      room = e.room;
      held = e.held;
      most = omega (arith, most, e.cost);
      told = map_told3 (g.S.PageSource.content c.args.source.now)
          (λ file exact due page. on_root (index_in file c.args.tree.now) c.args.key.now c.check_root.new.walk
          c.in_ok-due.due (due c.args.key.now) page (exact c.args.key.now)) e.exact e.due e.page;
      spent = map_told (g.S.PageSource.content c.args.source.now)
          (λ file due. let l = (due c.args.key.now).level in omega (arith, l, e.cost)) e.due;
    }

pub step_down-due-requires-clause-facts : goal.step_down-due-requires-clause-facts
step_down-due-requires-clause-facts g c =
    facts_above c.loop-due.walk c.args.tree.now.leaf.now c.args.tree.now.node.now c.loop-due.due
    c.loop-due.invariant.held c.loop-due-test.true

pub step_down-due-requires-clause-some : goal.step_down-due-requires-clause-some
step_down-due-requires-clause-some g c =
    some_pointer c.loop-due.walk c.args.tree.now.leaf.now c.args.tree.now.node.now c.loop-due.due
    c.loop-due.invariant.held c.loop-due-test.true

pub loop-due-preserved : goal.loop-due-preserved
loop-due-preserved g c =
    let inv = c.loop-due.invariant in
    let e = c.in_ok-check_next.ensures in
    let down = c.step_down-due.ensures in
    let exact = rw inv.same at e.exact in
    let due = rw inv.same at e.due in
    let page = rw inv.same at e.page in
    record {
      same = e.over.same ∙ inv.same;
      later = omega (arith, e.over.cause.later, inv.later);
      asked = omega (arith, inv.asked, e.over.asked);
      room = room_join c.args.walk.now c.step_down-due.new.walk c.check_next.new.walk
          (room_join c.args.walk.now c.loop-due.walk c.step_down-due.new.walk inv.room down.room) e.room;
      held = e.held;
      most = omega (arith, inv.most, e.cost, down.level);
      told = map_told4 (g.S.PageSource.content c.args.source.now)
          (λ file on exact due page.
          let index = index_in file c.args.tree.now in
          let is = down.due index on.depth refl on.page on.is_due in
          on_next index c.args.key.now c.loop-due.walk c.check_next.new.walk c.loop-due.due c.step_down-due.result on
          (due c.args.key.now _ is) page (exact c.args.key.now _ is)) inv.told exact due page;
      spent = map_told (g.S.PageSource.content c.args.source.now)
          (λ file spent. omega (arith, spent, e.cost, down.level)) inv.spent;
    }

pub returns-in_err-due-clause-steps_if_told : goal.returns-in_err-due-clause-steps_if_told
returns-in_err-due-clause-steps_if_told g c =
    if_told (g.S.PageSource.content c.args.source.now) (λ file. omega (arith, c.check_root.ensures.cost))

pub returns-in_err-check_next-clause-steps_if_told : goal.returns-in_err-check_next-clause-steps_if_told
returns-in_err-check_next-clause-steps_if_told g c =
    map_told (g.S.PageSource.content c.args.source.now)
    (λ file spent. omega (arith, spent, c.check_next.ensures.cost, c.loop-due-test.true)) c.loop-due.invariant.spent

pub returns-clause-exact : goal.returns-clause-exact
returns-clause-exact g c =
    map_told (g.S.PageSource.content c.args.source.now)
    (λ file on. all_hold (index_in file c.args.tree.now) c.args.key.now c.loop-due.walk c.loop-due.due on
    (omega (arith, c.loop-due-test.false)))
    c.loop-due.invariant.told

pub returns-clause-leaf : goal.returns-clause-leaf
returns-clause-leaf g c =
    map_told (g.S.PageSource.content c.args.source.now)
    (λ file on. leaf_is (index_in file c.args.tree.now) c.args.key.now c.loop-due.walk c.loop-due.due on
    (omega (arith, c.loop-due-test.false)))
    c.loop-due.invariant.told

pub returns-clause-facts : goal.returns-clause-facts
returns-clause-facts g c =
    facts_leaf c.loop-due.walk c.args.tree.now.leaf.now c.args.tree.now.node.now c.loop-due.due
    c.loop-due.invariant.held (omega (arith, c.loop-due-test.false))
