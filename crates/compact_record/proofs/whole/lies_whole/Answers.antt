use Rattle.std.proofs.Common.{ap, sym, ◌∙◌, arith, length, below_more}
use Rattle.std.proofs.lemmas.Bool.{not-true}
use Rattle.column_values.specs.declared.field.Storage.{Storage}
use Rattle.compact_record.specs.Whole.{FieldLiesWhole}
use Rattle.compact_record.proofs.FieldSteps.{fixed_facts}
use Rattle.compact_record.proofs.whole.lies_whole.Goals as goal

pub loop-i-preserved-then-not-stored-2 : goal.loop-i-preserved-then-not-stored-2
loop-i-preserved-then-not-stored-2 c =
    let page = c.args.page.now in
    let fields = c.args.fields.now in
    let i = c.loop-i.i in
    let so = c.loop-i.invariant in
    let stored = c.storage_at-stored.ensures.value in
    let count = ap (λ xs. length xs) c.fields-count.ensures.same in
    let fixed = fixed_facts page c.args.origin fields i c.storage_at-stored.result
    (omega (arith, count, c.loop-i-test.true)) stored (not-true _ c.if-not-stored.true)
    (not-true _ c.if-not-stored-2.true) in
    record {
      nulls = so.nulls ∙ sym fixed.nulls;
      lengths = so.lengths ∙ sym fixed.lengths;
      few = omega (arith, so.few);
      short = omega (arith, so.short);
      whole = below_more (FieldLiesWhole page c.args.origin fields) i so.whole (record {
        here = sym fixed.external;
        fits = omega (arith, fixed.size, ap (λ (s : Storage). s.length) stored);
      });
    }
