use Rattle.std.proofs.Common.{◌≡◌, ℕ, ◌+◌, ◌*◌, ◌<◌, ◌≤◌, length, get_or, set, All, ap, refl, sym, subst, ◌∙◌, arith}
use Rattle.std.proofs.Common.{inl, inr, length-set, get_or-set_same, get_or-set_other}
use Rattle.std.proofs.lemmas.Bool.Decides.{eqb_tells}
use Rattle.space_audit.proofs.AtHome.{get_any}
use Rattle.space_audit.proofs.ReadExtents.{summed_here, summed_past, small_set}
use Rattle.space_audit.proofs.homes.sum_homes.Goals.{then-home-lists, else-home-lists}
use Rattle.space_audit.proofs.homes.sum_homes.Goals as goal

pub loop-e-preserved : goal.loop-e-preserved
loop-e-preserved c =
    let i = c.loop-e.invariant in
    let e = c.loop-e.e in
    let homes = c.args.homes.now in
    let uses = c.args.uses.now in
    let sums = c.loop-e.sums.items in
    let home = get_or homes e 0 in
    elim c.if-home-lists.branch [
      | then-home-lists w ↦
          let old : w.index_mut.result.now ≡ get_or sums home 0 =
          w.index_mut.ensures.value ∙ get_any sums home w.index_mut.result.now
          (omega (arith, i.room, w.if-home-lists.true)) in
          let few : get_or uses e 0 ≤ 64 = c.requires.small e 0 (omega (arith, c.loop-e-test.true, c.requires.same))
          in
          let value = w.index_mut.result.now + get_or uses e 0 in
          let new : value ≡ get_or sums home 0 + get_or uses e 0 = ap (λ n. n + get_or uses e 0) old in
          rw w.sums-is (record {
            room = length-set sums home value ∙ i.room;
            small = small_set sums home value (64 * e) (64 * (e + 1)) i.small
                (omega (arith, i.small home, new, few)) (omega arith);
            summed = summed_here homes uses sums c.args.lists e value i.summed w.if-home-lists.true i.room new;
          })
      | else-home-lists w ↦ rw w.sums-is (record {
        room = i.room;
        small = λ k. omega (arith, i.small k);
        summed = summed_past homes uses sums c.args.lists e i.summed (omega (arith, w.if-home-lists.false));
      })
    ]
