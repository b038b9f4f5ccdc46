use Rattle.std.proofs.Common.{◌≡◌, ◌∙◌, ap, refl, arith}
use Rattle.std.proofs.lemmas.Result.{err_from_is_err_and}
use Rattle.compact_record.specs.Keys.{child_at}
use Rattle.page_source.proofs.Told.{map_told2, map_told5}
use Rattle.tree_walk.specs.declared.walk.Walk.{Walk}
use Rattle.tree_walk.specs.Tree.{index_in}
use Rattle.tree_walk.proofs.Lists.{unmarked_most}
use Rattle.tree_walk.proofs.Rooms.{room_join}
use Rattle.tree_walk.proofs.LevelSteps.{state_first, first_is_record, state_more, level_halts_here, level_holds}
use Rattle.tree_walk.proofs.LevelSteps.{level_marked, level_is, leftmost_is}
use Rattle.tree_walk.proofs.level.walk_level.Goals as goal

pub returns-in_err-read_low-clause-exact : goal.returns-in_err-read_low-clause-exact
returns-in_err-read_low-clause-exact g c =
    map_told2 (g.S.PageSource.content c.args.source.now)
    (λ file a p. absurd (c.in_err-read_low.ensures.err c.in_err-read_low.field-0.0 refl
    (first_is_record (index_in file c.args.aim.now.tree) c.args.aim.now c.args.upper
    c.next_origin-origin.result c.fetch.new.page a p c.next_origin-origin.ensures.value)))
    c.requires.at c.in_ok-fetch.ensures.bytes

pub places-init : goal.places-init
places-init g c =
    let ep : c.read_low.new.walk.parent ≡ c.fetch.new.page = ap (λ (w : Walk). w.parent)
    c.in_ok-read_low.ensures.same in
    record {
      same = c.in_ok-fetch.ensures.same;
      members = refl;
      marked = λ n was. was;
      later = c.in_ok-fetch.ensures.cause.later;
      asked = omega (arith, c.in_ok-fetch.ensures.asked.most, c.in_ok-fetch.ensures.step);
      spent = omega (arith, c.in_ok-fetch.ensures.step, c.requires.some);
      told =
          rw ep (map_told2 (g.S.PageSource.content c.args.source.now)
          (λ file a p. state_first (index_in file c.args.aim.now.tree) c.args.aim.now
          c.args.upper c.next_origin-origin.result c.fetch.new.page a p c.next_origin-origin.ensures.value
          c.args.marks.now)
          c.requires.at c.in_ok-fetch.ensures.bytes);
      room = let s = c.in_ok-read_low.ensures.room in record
          { scratch = s.scratch; low = s.low; high = s.high; first = s.first; last = s.last };
      few = unmarked_most c.args.marks.now;
      fewer = omega arith;
      live = omega arith;
      deleted = omega arith;
    }

pub returns-in_err-found-clause-exact : goal.returns-in_err-found-clause-exact
returns-in_err-found-clause-exact g c =
    let r = err_from_is_err_and c.from_residual-in_err-found.result c.from_residual-in_err-found.ensures.1 in
    let x = rw c.places.invariant.same at c.in_err-found.ensures.exact in
    rw (r.1, r.2)
    (map_told2 (g.S.PageSource.content c.args.source.now)
    (λ file s x. level_halts_here (index_in file c.args.aim.now.tree) c.args.aim.now
    c.args.marks.now c.places.marks c.places.place c.places.walk.parent c.places.tally s
    c.in_err-found.field-0.0 x)
    c.places.invariant.told x)

pub returns-in-None-clause-exact : goal.returns-in-None-clause-exact
returns-in-None-clause-exact g c =
    let o = g.S.PageSource.content c.args.source.now in
    let i = c.places.invariant in
    let x = rw i.same at c.in_ok-found.ensures.exact in
    let m = rw i.same at c.in_ok-found.ensures.marked in
    let t = rw i.same at c.in_ok-found.ensures.tally in
    let f = rw i.same at c.in_ok-found.ensures.follows in
    map_told5 o
    (λ file s x m t f. level_holds (index_in file c.args.aim.now.tree) c.args.aim.now
    c.args.marks.now c.places.marks c.places.place c.places.walk.parent c.places.tally s c.check_pointer.new.marks
    x m c.in_ok-found.found.tally c.sum-tally.result t c.sum-tally.ensures.live c.sum-tally.ensures.deleted
    c.sum-tally.ensures.whole
    (c.in-None.ensures.end refl (index_in file c.args.aim.now.tree) c.args.aim.now.depth
    c.places.place.j f))
    i.told x m t f

pub returns-in-None-clause-marked : goal.returns-in-None-clause-marked
returns-in-None-clause-marked g c =
    let o = g.S.PageSource.content c.args.source.now in
    let i = c.places.invariant in
    let x = rw i.same at c.in_ok-found.ensures.exact in
    let m = rw i.same at c.in_ok-found.ensures.marked in
    let t = rw i.same at c.in_ok-found.ensures.tally in
    let f = rw i.same at c.in_ok-found.ensures.follows in
    map_told5 o
    (λ file s x m t f. level_marked (index_in file c.args.aim.now.tree) c.args.aim.now
    c.args.marks.now c.places.marks c.places.place c.places.walk.parent c.places.tally s c.check_pointer.new.marks
    x m c.in_ok-found.found.tally c.sum-tally.result t c.sum-tally.ensures.live c.sum-tally.ensures.deleted
    c.sum-tally.ensures.whole
    (c.in-None.ensures.end refl (index_in file c.args.aim.now.tree) c.args.aim.now.depth
    c.places.place.j f))
    i.told x m t f

pub returns-in-None-clause-level : goal.returns-in-None-clause-level
returns-in-None-clause-level g c =
    let o = g.S.PageSource.content c.args.source.now in
    let i = c.places.invariant in
    let x = rw i.same at c.in_ok-found.ensures.exact in
    let m = rw i.same at c.in_ok-found.ensures.marked in
    let t = rw i.same at c.in_ok-found.ensures.tally in
    let f = rw i.same at c.in_ok-found.ensures.follows in
    let ep : c.read_low.new.walk.parent ≡ c.fetch.new.page = ap (λ (w : Walk). w.parent)
    c.in_ok-read_low.ensures.same in
    let node = c.args.aim.now.tree.node.now in
    let q : c.child-leftmost.result ≡ child_at c.fetch.new.page node c.next_origin-origin.result =
    c.child-leftmost.ensures ∙ ap (λ page. child_at page node c.read_low.new.walk.low.origin) ep ∙ ap
    (child_at c.fetch.new.page node) c.in_ok-read_low.ensures.ok.stands in
    let l = map_told2 o (λ file a p. leftmost_is (index_in file c.args.aim.now.tree)
    c.args.aim.now c.args.upper c.next_origin-origin.result c.fetch.new.page a p c.next_origin-origin.ensures.value
    c.child-leftmost.result q)
    c.requires.at c.in_ok-fetch.ensures.bytes in
    let v = map_told5 o
    (λ file s x m t f. level_is (index_in file c.args.aim.now.tree) c.args.aim.now
    c.args.marks.now c.places.marks c.places.place c.places.walk.parent c.places.tally s c.check_pointer.new.marks
    x m c.in_ok-found.found.tally c.sum-tally.result t c.sum-tally.ensures.live c.sum-tally.ensures.deleted
    c.sum-tally.ensures.whole
    (c.in-None.ensures.end refl (index_in file c.args.aim.now.tree) c.args.aim.now.depth
    c.places.place.j f))
    i.told x m t f in
    map_told2 o (λ file v l. v c.child-leftmost.result l) v l

pub places-preserved : goal.places-preserved
places-preserved g c =
    let o = g.S.PageSource.content c.args.source.now in
    let i = c.places.invariant in
    let x = rw i.same at c.in_ok-found.ensures.exact in
    let m = rw i.same at c.in_ok-found.ensures.marked in
    let t = rw i.same at c.in_ok-found.ensures.tally in
    let f = rw i.same at c.in_ok-found.ensures.follows in
    let ep : c.read_low-in-places.new.walk.parent ≡ c.places.walk.parent = ap (λ (w : Walk). w.parent)
    c.in_ok-read_low-2.ensures.same in
    let node = c.args.aim.now.tree.node.now in
    let q : c.child-at.result ≡ child_at c.places.walk.parent node c.places.place.cursor.origin =
    c.child-at.ensures ∙ ap (λ page. child_at page node c.read_low-in-places.new.walk.low.origin) ep ∙ ap
    (child_at c.places.walk.parent node) c.in_ok-read_low-2.ensures.ok.stands in
    let k = c.in_ok-found.ensures.stays.over.cause.later in
    let n = c.in_ok-found.ensures.fewer in
    let most = c.in_ok-found.ensures.most in
    record {
      same = c.in_ok-found.ensures.stays.over.same ∙ i.same;
      members = c.in_ok-found.ensures.stays.members ∙ i.members;
      marked = λ n was. c.in_ok-found.ensures.stays.marked n (i.marked n was);
      later = omega (arith, k, i.later);
      asked = omega (arith, i.asked, c.in_ok-found.ensures.stays.over.asked);
      spent = omega (arith, n, i.spent, c.in_ok-found.ensures.spent, c.in-Some.ensures.more);
      told =
          map_told5 o
          (λ file s x m t f. state_more (index_in file c.args.aim.now.tree) c.args.aim.now
          c.args.marks.now c.places.marks c.places.place c.places.walk.parent c.places.tally s
          c.check_pointer.new.marks x m c.in_ok-found.found.tally c.sum-tally.result t c.sum-tally.ensures.live
          c.sum-tally.ensures.deleted c.sum-tally.ensures.whole
          c.in-Some.cursor c.advance.new.walk.parent c.child-at.result
          (c.in-Some.ensures.stands (index_in file c.args.aim.now.tree)
          c.args.aim.now.depth c.places.place.j f) q)
          i.told x m t f;
      room = room_join _ _ _ i.room (room_join _ _ _ c.in_ok-read_low-2.ensures.room
          (room_join _ _ _ c.in_ok-found.ensures.stays.room c.in-Some.ensures.room));
      few = omega (arith, n, i.few, c.in_ok-found.ensures.stays.members);
      fewer = omega (arith, n, i.fewer);
      live = omega (arith, i.live, c.sum-tally.ensures.live, most);
      deleted = omega (arith, i.deleted, c.sum-tally.ensures.deleted, most);
    }
