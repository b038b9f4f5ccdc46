use Rattle.std.proofs.Common.{length, ◌<◌, ap, ◌∙◌, arith}
use Rattle.std.proofs.lemmas.Result.{err_from_is_err_and}
use Rattle.compact_record.specs.Reading.{field_count}
use Rattle.compact_record.proofs.KeySteps.{count_of_places}
use Rattle.page_source.proofs.Told.{if_told}
use Rattle.table_check.proofs.Progress.{unmarked_most}
use Rattle.table_check.proofs.RecordMarks.{place_read, field_read}
use Rattle.table_check.proofs.RecordMarks.{none_held, field_breaks, field_holds, all_held, field_steps, all_steps}
use Rattle.table_check.proofs.RecordMarks.{steps_held}
use Rattle.table_check.proofs.record.check_row_values.Goals as goal

pub loop-i-init : goal.loop-i-init
loop-i-init g c = record {
  have = none_held c.args.marks.now c.args.steps.now;
  asked = omega arith;
  told = if_told (g.S.PageSource.content c.args.source.now) (λ file. omega arith);
}

pub bounds-places-i : goal.bounds-places-i
bounds-places-i g c =
    omega (
      arith,
      ap length (c.places.ensures ∙ c.requires.whole.read.holds),
      count_of_places c.args.leaf.now.page.now c.args.located.now.origin c.args.leaf.now.fields.now,
      ap length c.fields-field-items.ensures.same,
      c.loop-i-test.true,
    )

pub check_field-requires-clause-ready : goal.check_field-requires-clause-ready
check_field-requires-clause-ready g c =
    let has = c.loop-i.invariant.have.has in
    record {
      told = rw has.same c.requires.ready.told;
      members = has.members ∙ c.requires.ready.members;
    }

pub returns-in_err-count-clause-checks : goal.returns-in_err-count-clause-checks
returns-in_err-count-clause-checks g c =
    let leaf = c.args.leaf.now in
    let fields = leaf.fields.now in
    let within : c.loop-i.i < field_count fields =
    omega (arith, ap length c.fields-field-items.ensures.same, c.loop-i-test.true) in
    let r = err_from_is_err_and c.from_residual.result c.from_residual.ensures.1 in
    rw (r.1, r.2)
    (field_breaks c.loop-i.invariant.have within _ _
    (field_read fields c.fields-field-items.result.now c.loop-i.i _ c.fields-field-items.ensures.same within)
    (place_read leaf.page.now c.args.located.now.origin fields c.places.result.now c.loop-i.i _
    (c.places.ensures ∙ c.requires.whole.read.holds) within)
    _ _ _ c.in_err-count.field-0.0 c.in_err-count.ensures.checks)

pub returns-in_err-count-clause-steps_if_told : goal.returns-in_err-count-clause-steps_if_told
returns-in_err-count-clause-steps_if_told g c =
    let leaf = c.args.leaf.now in
    let fields = leaf.fields.now in
    let within : c.loop-i.i < field_count fields =
    omega (arith, ap length c.fields-field-items.ensures.same, c.loop-i-test.true) in
    all_steps c.loop-i.invariant.have within _ _
    (field_read fields c.fields-field-items.result.now c.loop-i.i _ c.fields-field-items.ensures.same within)
    (place_read leaf.page.now c.args.located.now.origin fields c.places.result.now c.loop-i.i _
    (c.places.ensures ∙ c.requires.whole.read.holds) within)
    c.check_field.new.source c.check_field.new.marks _ c.loop-i.invariant.told c.check_field.ensures.steps_if_told

pub overflow_add-count : goal.overflow_add-count
overflow_add-count g c =
    omega (
      arith,
      c.loop-i.invariant.have.has.fewer,
      c.in_ok-count.ensures.checks.fewer,
      unmarked_most c.args.marks.now,
      c.requires.ready.members,
    )

pub loop-i-preserved : goal.loop-i-preserved
loop-i-preserved g c =
    let leaf = c.args.leaf.now in
    let fields = leaf.fields.now in
    let within : c.loop-i.i < field_count fields =
    omega (arith, ap length c.fields-field-items.ensures.same, c.loop-i-test.true) in
    record {
      have =
          field_holds c.loop-i.invariant.have within _ _
          (field_read fields c.fields-field-items.result.now c.loop-i.i _ c.fields-field-items.ensures.same within)
          (place_read leaf.page.now c.args.located.now.origin fields c.places.result.now c.loop-i.i _
          (c.places.ensures ∙ c.requires.whole.read.holds) within)
          _ _ _ c.in_ok-count.field-0 c.in_ok-count.ensures.checks;
      asked = omega (arith, c.loop-i.invariant.asked, c.in_ok-count.ensures.asked);
      told =
          field_steps c.loop-i.invariant.have within _ _
          (field_read fields c.fields-field-items.result.now c.loop-i.i _ c.fields-field-items.ensures.same within)
          (place_read leaf.page.now c.args.located.now.origin fields c.places.result.now c.loop-i.i _
          (c.places.ensures ∙ c.requires.whole.read.holds) within)
          c.check_field.new.source c.check_field.new.marks _ c.loop-i.invariant.told
          c.check_field.ensures.steps_if_told;
    }

pub returns-clause-steps_if_told : goal.returns-clause-steps_if_told
returns-clause-steps_if_told g c =
    steps_held g.S.PageSource c.args.source.now c.args.steps.now c.loop-i.steps c.loop-i.i c.args.leaf.now
    c.args.located.now.origin c.loop-i.invariant.told
    (omega (arith, ap length c.fields-field-items.ensures.same, c.loop-i-test.false, c.loop-i.auto.i-end))

pub returns-clause-checks : goal.returns-clause-checks
returns-clause-checks g c =
    all_held c.loop-i.invariant.have
    (omega (arith, ap length c.fields-field-items.ensures.same, c.loop-i-test.false, c.loop-i.auto.i-end))
