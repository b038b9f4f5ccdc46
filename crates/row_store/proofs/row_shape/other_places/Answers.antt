use Rattle.std.proofs.Common.{eqb, ap, sym, ◌∙◌}
use Rattle.std.specs.List.{list_any}
use Rattle.row_store.proofs.Shapes.{others_same, others_more}
use Rattle.row_store.proofs.row_shape.other_places.Goals as goal
use Rattle.row_store.proofs.row_shape.other_places.Goals.{then-not-is_among+in_ok-push, else-not-is_among}

pub loop-place-preserved : goal.loop-place-preserved
loop-place-preserved c =
    let key = c.items-key.result.now in
    let n = c.loop-place.place in
    let same = c.is_among.ensures ∙ ap (λ k. list_any (λ j. eqb j k) key) c.from.ensures in
    elim c.if-not-is_among.branch [
      | then-not-is_among+in_ok-push w ↦
          rw w.places-is
          (others_more key n c.loop-place.places.items _ (sym same ∙ w.if-not-is_among.true)
          c.loop-place.invariant w.in_ok-push.ensures.items)
      | else-not-is_among w ↦
          rw w.places-is
          (others_same key n c.loop-place.places.items (sym same ∙ w.if-not-is_among.false)
          c.loop-place.invariant)
    ]
