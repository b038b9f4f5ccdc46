use Rattle.std.proofs.Common.{◌∙◌, arith}
use Rattle.index_page.proofs.KeyOrder.{whole_reading, first_facts, next_facts, rise_of, rises_at, rises_more}
use Rattle.index_page.proofs.keys.keys_rise.Goals as goal

pub loop-i-init : goal.loop-i-init
loop-i-init c =
    let r = c.requires in
    let facts = first_facts c.args.page.now c.args.fields.now _ _ r.header r.chain r.spelled r.apart
    c.record_count-records.ensures.value c.if-records-eq0.false c.next_origin-origin.ensures.value in
    record {
      place = facts.0;
      here = facts.1;
      reading = c.again.ensures.read (c.again.ensures.exact.1 facts.1.spelled);
      members = c.again.ensures.members;
      same = r.same;
      rise = λ k below. absurd (omega arith);
    }

pub again-requires-in-loop-i-clause-origin : goal.again-requires-in-loop-i-clause-origin
again-requires-in-loop-i-clause-origin c =
    let r = c.requires in
    let facts = next_facts c.args.page.now c.args.fields.now _ _ _ _ r.header r.chain r.spelled r.apart
    c.record_count-records.ensures.value c.loop-i-test.true c.loop-i.invariant.place
    c.next_origin-next.ensures.value in
    (facts.1.least, facts.1.most)

pub rise-requires-clause-low : goal.rise-requires-clause-low
rise-requires-clause-low c =
    whole_reading c.args.page.now c.args.fields.now _ _ c.loop-i.invariant.here c.loop-i.invariant.reading

pub rise-requires-clause-high : goal.rise-requires-clause-high
rise-requires-clause-high c =
    let r = c.requires in
    let facts = next_facts c.args.page.now c.args.fields.now _ _ _ _ r.header r.chain r.spelled r.apart
    c.record_count-records.ensures.value c.loop-i-test.true c.loop-i.invariant.place
    c.next_origin-next.ensures.value in
    whole_reading c.args.page.now c.args.fields.now _ _ facts.1
    (c.again-in-loop-i.ensures.read (c.again-in-loop-i.ensures.exact.1 facts.1.spelled))

pub returns-then-not-rise-clause-exact : goal.returns-then-not-rise-clause-exact
returns-then-not-rise-clause-exact c =
    let r = c.requires in
    let page = c.args.page.now in
    let fields = c.args.fields.now in
    let facts = next_facts page fields _ _ _ _ r.header r.chain r.spelled r.apart c.record_count-records.ensures.value
    c.loop-i-test.true c.loop-i.invariant.place c.next_origin-next.ensures.value in
    let high = c.again-in-loop-i.ensures.read (c.again-in-loop-i.ensures.exact.1 facts.1.spelled) in (
      λ sound. (cc),
      λ rise. c.if-not-rise.ensures.1 (rw (
        c.loop-i.invariant.reading.stands,
        high.stands,
        c.loop-i.invariant.place,
        facts.0,
      ) (rises_at page fields c.args.lowest_first c.loop-i.i rise (omega arith))),
    )

pub loop-i-preserved : goal.loop-i-preserved
loop-i-preserved c =
    let r = c.requires in
    let page = c.args.page.now in
    let fields = c.args.fields.now in
    let facts = next_facts page fields _ _ _ _ r.header r.chain r.spelled r.apart c.record_count-records.ensures.value
    c.loop-i-test.true c.loop-i.invariant.place c.next_origin-next.ensures.value in
    let high = c.again-in-loop-i.ensures.read (c.again-in-loop-i.ensures.exact.1 facts.1.spelled) in
    record {
      place = facts.0;
      here = facts.1;
      reading = rw (c.swap.ensures.x_after) (c.again-in-loop-i.ensures.read
          (c.again-in-loop-i.ensures.exact.1 facts.1.spelled));
      members = rw (c.swap.ensures.x_after) (c.again-in-loop-i.ensures.members ∙ c.loop-i.invariant.same);
      same = rw (c.swap.ensures.y_after) c.loop-i.invariant.members;
      rise = rises_more page fields c.args.lowest_first c.loop-i.i _ _ (c.loop-i.invariant.reading.stands
          ∙ c.loop-i.invariant.place) (high.stands ∙ facts.0) (c.rise.ensures.0 c.if-not-rise.false)
          c.loop-i.invariant.rise;
    }

pub returns-clause-exact : goal.returns-clause-exact
returns-clause-exact c = (
  λ _. rise_of c.args.page.now c.args.fields.now c.args.lowest_first
      (λ k below. c.loop-i.invariant.rise k (omega arith)),
  λ _. (cc),
)
