use Rattle.std.proofs.Common.{ap, sym, ◌∙◌, arith, length}
use Rattle.std.proofs.lemmas.Bool.{not-true}
use Rattle.compact_record.proofs.FieldSteps.{fixed_facts, local_more, place_here, places_more, spelled_more}
use Rattle.compact_record.proofs.places.read_places.Goals as goal

pub loop-i-preserved : goal.loop-i-preserved
loop-i-preserved c =
    let page = c.args.page.now in
    let fields = c.args.fields.now in
    let i = c.loop-i.i in
    let read = c.read_field-read.ensures in
    let count = ap (λ xs. length xs) c.fields-count.ensures.same in
    record {
      nulls = c.nulls_with-nulls.ensures.value;
      lengths = c.lengths_with-lengths.ensures.value;
      local = omega (arith, local_more page c.args.origin fields i, c.loop-i.invariant.local, read.length);
      few = c.nulls_with-nulls.ensures.less;
      short = c.lengths_with-lengths.ensures.less;
      small = omega (arith, read.within);
      spelled = spelled_more page c.args.origin fields i
          (c.is_field_spelled.ensures.0 c.if-not-is_field_spelled.false) c.loop-i.invariant.spelled;
      places = places_more page c.args.origin fields _ i _ (omega (arith, count, c.requires.room, c.loop-i.auto))
          (place_here page c.args.origin fields i _ _ _ _ read.null read.external c.loop-i.invariant.local read.length)
          c.loop-i.invariant.places;
    }

pub loop-i-preserved-then-not-stored-2 : goal.loop-i-preserved-then-not-stored-2
loop-i-preserved-then-not-stored-2 c =
    let page = c.args.page.now in
    let fields = c.args.fields.now in
    let origin = c.args.origin in
    let i = c.loop-i.i in
    let so = c.loop-i.invariant in
    let count = ap (λ xs. length xs) c.fields-count.ensures.same in
    let fixed = fixed_facts page origin fields i c.storage_at-stored.result (omega (arith, count, c.loop-i-test.true))
    c.storage_at-stored.ensures.value (not-true _ c.if-not-stored.true) (not-true _ c.if-not-stored-2.true) in
    record {
      nulls = so.nulls ∙ sym fixed.nulls;
      lengths = so.lengths ∙ sym fixed.lengths;
      local = omega (arith, local_more page origin fields i, so.local, fixed.size);
      few = omega (arith, so.few);
      short = omega (arith, so.short);
      small = omega (arith, so.small, c.storage_at-stored.ensures.short);
      spelled = spelled_more page origin fields i fixed.spelled so.spelled;
      places = places_more page origin fields _ i _ (omega (arith, count, c.requires.room, c.loop-i.auto))
          (place_here page origin fields i _ _ _ _ fixed.null fixed.external so.local fixed.size) so.places;
    }
