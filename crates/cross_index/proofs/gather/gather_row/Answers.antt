use Rattle.std.proofs.Common.{◌∙◌, refl, arith}
use Rattle.page_source.proofs.Told.{if_told, map_told, map_told2, map_told3}
use Rattle.cross_index.proofs.RowSteps.{row_start, row_follow, row_few, row_more}
use Rattle.cross_index.proofs.gather.gather_row.Goals as goal

pub loop-k-init : goal.loop-k-init
loop-k-init g c = record {
  same = refl;
  later = omega arith;
  asked = omega arith;
  cost = refl;
  told = if_told (g.S.PageSource.content c.args.source.now)
      (λ file. row_start file c.args.page.now c.args.places.now c.args.kept.now c.args.cells.now c.args.room.now.left);
}

pub gather_field-requires-clause-follow : goal.gather_field-requires-clause-follow
gather_field-requires-clause-follow g c =
    rw c.loop-k.invariant.same
    (map_told (g.S.PageSource.content c.args.source.now)
    (λ file can. row_follow file c.args.page.now c.args.places.now c.args.kept.now c.loop-k.k-index _ c.place_of.result
    c.loop-k-test.true c.place_of.ensures.same c.args.room.now.left can)
    c.requires.told)

pub gather_field-requires-clause-few : goal.gather_field-requires-clause-few
gather_field-requires-clause-few g c =
    rw c.loop-k.invariant.same
    (map_told2 (g.S.PageSource.content c.args.source.now)
    (λ file can so. row_few file c.args.page.now c.args.places.now c.args.kept.now c.loop-k.k-index _ c.place_of.result
    c.loop-k-test.true c.place_of.ensures.same c.args.cells.now c.loop-k.cells c.args.room.now.left c.loop-k.room.left
    can so)
    c.requires.told c.loop-k.invariant.told)

pub loop-k-preserved : goal.loop-k-preserved
loop-k-preserved g c =
    let i = c.loop-k.invariant in
    let value = rw i.same at c.in_ok-gather_field.ensures.value in
    let left = rw i.same at c.in_ok-gather_field.ensures.left in
    record {
      same = c.in_ok-gather_field.ensures.over.same ∙ i.same;
      later = omega (arith, i.later, c.in_ok-gather_field.ensures.over.later);
      asked = omega (arith, i.asked, c.in_ok-gather_field.ensures.over.asked);
      cost = c.in_ok-gather_field.ensures.cost ∙ i.cost;
      told = map_told3 (g.S.PageSource.content c.args.source.now)
          (λ file so value left. row_more file c.args.page.now c.args.places.now c.args.kept.now c.loop-k.k-index _
          c.place_of.result
          c.loop-k-test.true c.place_of.ensures.same c.args.cells.now c.loop-k.cells c.gather_field.new.cells
          c.args.room.now.left c.loop-k.room.left c.gather_field.new.room.left so value left)
          i.told value left;
    }
