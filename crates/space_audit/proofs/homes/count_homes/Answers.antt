use Rattle.std.proofs.Common.{◌≡◌, ℕ, ◌<◌, length, get_or, ◌+◌, ap, refl, sym, ◌∙◌, arith, length-set}
use Rattle.space_audit.proofs.AtHome.{get_any, counted_here, counted_past, counted_few}
use Rattle.space_audit.proofs.homes.count_homes.Goals.{then-home-lists, else-home-lists}
use Rattle.space_audit.proofs.homes.count_homes.Goals as goal

pub overflow_add-index_mut : goal.overflow_add-index_mut
overflow_add-index_mut c =
    let home = get_or c.args.homes.now c.loop-home.home-index 0 in
    omega (
      arith,
      c.index_mut.ensures.value,
      get_any c.loop-home.counts.items home c.index_mut.result.now
          (omega (arith, c.loop-home.invariant.room, c.if-home-lists.true)),
      c.loop-home.invariant.counted home
          c.if-home-lists.true,
      counted_few c.args.homes.now home c.loop-home.home-index,
      c.requires,
    )

pub loop-home-preserved : goal.loop-home-preserved
loop-home-preserved c =
    let i = c.loop-home.invariant in
    elim c.if-home-lists.branch [
      | then-home-lists w ↦
          let home = get_or c.args.homes.now c.loop-home.home-index 0 in
          let old = w.index_mut.ensures.value
          ∙ get_any c.loop-home.counts.items home w.index_mut.result.now
          (omega (arith, i.room, w.if-home-lists.true)) in
          rw w.counts-is (record {
            room = length-set c.loop-home.counts.items home (w.index_mut.result.now + 1) ∙ i.room;
            counted = counted_here c.args.homes.now c.loop-home.counts.items c.args.lists c.loop-home.home-index
                (w.index_mut.result.now + 1) i.counted w.if-home-lists.true i.room (ap (λ n. n + 1) old);
          })
      | else-home-lists w ↦ rw w.counts-is (record {
        room = i.room;
        counted = counted_past c.args.homes.now
            c.loop-home.counts.items c.args.lists c.loop-home.home-index i.counted
            (omega (arith, w.if-home-lists.false));
      })
    ]
