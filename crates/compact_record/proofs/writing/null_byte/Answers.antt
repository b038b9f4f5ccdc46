use Rattle.std.proofs.Common.{◌≡◌, ◌<◌, ◌+◌, ◌%◌, ◌^◌, if◌then◌else◌, length-append, ◌++◌, ◌∷◌, [], Bool, List, true}
use Rattle.std.proofs.Common.{false, length, sym, ap, ◌∙◌, arith}
use Rattle.column_values.specs.declared.field.Storage.{Storage}
use Rattle.column_values.specs.Types.{field_at}
use Rattle.compact_record.specs.Writing.{part_at, is_null_part}
use Rattle.compact_record.proofs.FieldFits.{fit_same}
use Rattle.compact_record.proofs.WriteSteps.{bits_before, byte_of, bits_all, bits_nullable, bits_never, low_here}
use Rattle.compact_record.proofs.WriteSteps.{byte_same, byte_elsewhere}
use Rattle.compact_record.proofs.writing.null_byte.Goals as goal
use Rattle.compact_record.proofs.writing.null_byte.Goals.{then-storage_at, else-storage_at, then-nulls-j, else-nulls-j}

pub at-requires : goal.at-requires
at-requires c =
    omega (arith, fit_same c.args.fields.now c.args.parts.now c.requires, ap length c.fields-count.ensures.same)

pub with_bit-byte-requires-clause-low : goal.with_bit-byte-requires-clause-low
with_bit-byte-requires-clause-low c =
    low_here (bits_before c.args.fields.now c.args.parts.now c.loop-i.i) c.loop-i.byte c.loop-i.nulls c.args.j
    c.loop-i.invariant.counted c.loop-i.invariant.value c.if-nulls-j.true

pub loop-i-preserved : goal.loop-i-preserved
loop-i-preserved c =
    let fields = c.args.fields.now in
    let parts = c.args.parts.now in
    let i = c.loop-i.i in
    let below : i < length fields.fields = omega (arith, ap length c.fields-count.ensures.same) in
    let bits : List Bool = bits_before fields parts i in
    let bit : Bool = is_null_part (part_at parts i) in
    let counted = c.loop-i.invariant.counted in
    let value = c.loop-i.invariant.value in
    let few = c.loop-i.invariant.few in
    elim c.if-storage_at.branch [
      | then-storage_at w ↦
          let may_be : (field_at fields i).nullable ≡ true =
          ap (λ (s : Storage). s.nullable) (sym c.storage_at.ensures.value) ∙ w.if-storage_at.true in
          let more = bits_nullable fields parts i c.requires below may_be in
          let one : length (bits_before fields parts (i + 1)) ≡ length bits + 1 =
          ap (λ (bs : List Bool). length bs) more ∙ length-append bits (bit ∷ []) in
          let byte : w.if-nulls-j.byte ≡ byte_of (bits ++ bit ∷ []) c.args.j =
          elim w.if-nulls-j.branch [
            | then-nulls-j w' ↦
                w'.byte-is ∙ byte_same bits bit c.loop-i.byte w'.with_bit-byte.result c.loop-i.nulls
                c.args.j counted value
                w'.if-nulls-j.true
                (w'.with_bit-byte.ensures
                ∙ ap (λ (b : Bool). c.loop-i.byte + (if b then 2 ^ (c.loop-i.nulls % 8) else 0))
                (w'.is_null.ensures ∙ ap is_null_part w'.at.ensures))
            | else-nulls-j w' ↦
                w'.byte-is ∙ byte_elsewhere bits bit c.loop-i.byte c.loop-i.nulls c.args.j counted value
                w'.if-nulls-j.false
          ] in
          record {
            counted = w.nulls-is ∙ omega arith;
            value = w.byte-is ∙ byte ∙ ap (λ (bs : List Bool). byte_of bs c.args.j) (sym more);
            few = omega (arith, w.nulls-is);
          }
      | else-storage_at w ↦
          let never : (field_at fields i).nullable ≡ false =
          ap (λ (s : Storage). s.nullable) (sym c.storage_at.ensures.value) ∙ w.if-storage_at.false in
          let same = bits_never fields parts i c.requires below never in
          record {
            counted = w.nulls-is ∙ counted ∙ ap (λ (bs : List Bool). length bs) (sym same);
            value = w.byte-is ∙ value ∙ ap (λ (bs : List Bool). byte_of bs c.args.j) (sym same);
            few = omega (arith, w.nulls-is);
          }
    ]

pub returns : goal.returns
returns c =
    c.loop-i.invariant.value
    ∙ ap (λ (bits : List Bool). byte_of bits c.args.j)
    (bits_all c.args.fields.now c.args.parts.now c.loop-i.i c.requires
    (omega (arith, ap length c.fields-count.ensures.same)))
