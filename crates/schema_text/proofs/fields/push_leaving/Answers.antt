use Rattle.std.proofs.Common.{ℕ, Bool, refl, ◌+◌, ◌≡◌, ◌∙◌, ◌++◌, ◌∷◌, [], sym, ap, arith}
use Rattle.schema_text.specs.IndexFields.{leaving_field}
use Rattle.schema_text.proofs.FieldLemmas.{field_same, field_more}
use Rattle.std.specs.List.{range_with_len}
use Rattle.column_values.specs.declared.field.FieldType.TheVariants.{Column}
use Rattle.schema_text.proofs.fields.push_leaving.Goals as goal
use Rattle.schema_text.proofs.fields.push_leaving.Goals.{then-not-is_among+in_ok-push, else-not-is_among}
use Rattle.page_source.proofs.Lists.{range_next}

pub loop-place-preserved : goal.loop-place-preserved
loop-place-preserved c =
    let xs = range_with_len 0 c.loop-place.place in
    let grown = range_next 0 c.loop-place.place
    ∙ ap (λ (q : ℕ). xs ++ q ∷ []) (let e : 0 + c.loop-place.place ≡ c.loop-place.place = omega arith in e) in
    elim c.if-not-is_among.branch [
      | then-not-is_among+in_ok-push w ↦
          let column = w.index-columns-place.result in
          let pushed = w.in_ok-push.ensures.items
          ∙ ap (λ (b : Bool). c.loop-place.fields.items ++ record {
            kind = Column column.kind;
            nullable = column.nullable;
            may_leave = b;
          } ∷ []) w.is_big.ensures in
          rw w.fields-is
          (field_more leaving_field c.args.columns.now c.args.fields.now.items c.loop-place.fields.items _ xs _
          c.args.others.now c.loop-place.place column
          c.loop-place.invariant grown (sym c.is_among.ensures
          ∙ w.if-not-is_among.true) (omega arith) w.index-columns-place.is pushed)
      | else-not-is_among w ↦
          rw w.fields-is
          (field_same leaving_field c.args.columns.now c.args.fields.now.items c.loop-place.fields.items _ xs _
          c.args.others.now c.loop-place.place
          c.loop-place.invariant grown (sym c.is_among.ensures ∙ w.if-not-is_among.false) refl)
    ]
