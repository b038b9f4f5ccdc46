use Rattle.std.proofs.Common.{◌≡◌, ◌<◌, length, sym, ap, ◌∙◌, subst, arith}
use Rattle.column_values.specs.Types.{field_at}
use Rattle.compact_record.specs.declared.parts.Part.{Part}
use Rattle.compact_record.specs.Writing.{FitsField, part_at, local_bytes, length_of_part}
use Rattle.compact_record.proofs.FieldFits.{fit_same, fit_at}
use Rattle.compact_record.proofs.WriteSteps.{taken_step, taken_all, values_step, values_all}
use Rattle.compact_record.proofs.writing.part_sizes.Goals as goal

pub at-part-requires : goal.at-part-requires
at-part-requires c =
    omega (arith, fit_same c.args.fields.now c.args.parts.now c.requires, ap length c.fields-count.ensures.same)

pub local_size-local-requires-clause-fits : goal.local_size-local-requires-clause-fits
local_size-local-requires-clause-fits c =
    let fields = c.args.fields.now in
    let parts = c.args.parts.now in
    let below : c.loop-i.i < length fields.fields = omega (arith, ap length c.fields-count.ensures.same) in
    subst (λ (p : Part). FitsField (field_at fields c.loop-i.i) p) (sym c.at-part.ensures)
    (fit_at fields parts c.loop-i.i c.requires below)

pub loop-i-preserved : goal.loop-i-preserved
loop-i-preserved c =
    let fields = c.args.fields.now in
    let parts = c.args.parts.now in
    let i = c.loop-i.i in
    let below : i < length fields.fields = omega (arith, ap length c.fields-count.ensures.same) in
    let in' : i < length parts = omega (arith, fit_same fields parts c.requires) in
    let one : c.length_size-lengths.result ≡ length (length_of_part (field_at fields i, part_at parts i)) =
    c.length_size-lengths.ensures.value
    ∙ ap (λ (p : Part). length (length_of_part (field_at fields i, p))) c.at-part.ensures in
    let two : c.local_size-local.result ≡ length (local_bytes (part_at parts i)) =
    c.local_size-local.ensures.value ∙ ap (λ (p : Part). length (local_bytes p)) c.at-part.ensures in
    let lengths = c.loop-i.invariant.lengths_so_far in
    let local = c.loop-i.invariant.local_so_far in
    let few = c.loop-i.invariant.few in
    let short = c.loop-i.invariant.short in
    let most = c.length_size-lengths.ensures.few in
    let within = c.local_size-local.ensures.within in
    record {
      lengths_so_far = omega (arith, taken_step fields parts i c.requires below);
      local_so_far = omega (arith, values_step parts i in');
      few = omega arith;
      short = omega arith;
    }

pub returns-clause-lengths : goal.returns-clause-lengths
returns-clause-lengths c =
    c.loop-i.invariant.lengths_so_far
    ∙ taken_all c.args.fields.now c.args.parts.now c.loop-i.i c.requires
    (omega (arith, ap length c.fields-count.ensures.same))

pub returns-clause-local : goal.returns-clause-local
returns-clause-local c =
    c.loop-i.invariant.local_so_far
    ∙ values_all c.args.parts.now c.loop-i.i
    (omega (arith, fit_same c.args.fields.now c.args.parts.now c.requires, ap length c.fields-count.ensures.same))
