use Rattle.std.proofs.Common.{ℕ, refl, ◌∙◌, ◌++◌, ◌∷◌, [], take, sym, ap, arith}
use Rattle.std.proofs.lemmas.List.{take_more}
use Rattle.schema_text.specs.IndexFields.{kept_field}
use Rattle.schema_text.proofs.FieldLemmas.{field_same, field_more}
use Rattle.schema_text.proofs.fields.push_kept.Goals as goal
use Rattle.schema_text.proofs.fields.push_kept.Goals.{then-not-is_among+in_ok-push, else-not-is_among}

pub loop-position-preserved : goal.loop-position-preserved
loop-position-preserved c =
    let xs = take c.loop-position.position-index c.args.positions.now in
    let grown = take_more c.args.positions.now c.loop-position.position-index 0 (omega arith)
    ∙ ap (λ (q : ℕ). xs ++ q ∷ []) (sym c.from-place.ensures) in
    let within = c.requires c.loop-position.position-index 0 (omega arith) in
    elim c.if-not-is_among.branch [
      | then-not-is_among+in_ok-push w ↦
          rw w.fields-is
          (field_more kept_field c.args.columns.now c.args.fields.now.items c.loop-position.fields.items _ xs _
          c.args.others.now c.from-place.result w.index-columns-place.result
          c.loop-position.invariant grown (sym c.is_among.ensures
          ∙ w.if-not-is_among.true)
          (omega (arith, within, c.from-place.ensures)) w.index-columns-place.is w.in_ok-push.ensures.items)
      | else-not-is_among w ↦
          rw w.fields-is
          (field_same kept_field c.args.columns.now c.args.fields.now.items c.loop-position.fields.items _ xs _
          c.args.others.now c.from-place.result
          c.loop-position.invariant grown (sym c.is_among.ensures ∙ w.if-not-is_among.false) refl)
    ]
