use Rattle.std.proofs.Common.{sym, refl, ◌∙◌, arith}
use Rattle.compact_record.specs.Reading.{IsSpelled}
use Rattle.index_page.proofs.RecordWalk.{record_at_none, places_more, All_of_walk, All_at_place}
use Rattle.index_page.proofs.ChainWalk.{on_page, place_next}
use Rattle.index_page.proofs.spelling.are_spelled.Goals as goal

pub loop-init : goal.loop-init
loop-init c =
    let page = c.args.page.now in
    let place = sym (record_at_none page c.args.first) in
    record {
      place = place;
      inside = on_page page c.args.first c.args.count 0 _ c.requires.header c.requires.origins place;
      members = refl;
      spelled = λ k below. absurd (omega arith);
    }

pub returns-then-not-again-clause-exact : goal.returns-then-not-again-clause-exact
returns-then-not-again-clause-exact c =
    let page = c.args.page.now in (
      λ sound. (cc),
      λ all. c.if-not-again.ensures.exact.1
          (All_at_place page (λ o. IsSpelled page o c.args.fields.now) c.args.first _ _ _ all c.loop.invariant.place
          c.loop-test.true),
    )

pub loop-preserved : goal.loop-preserved
loop-preserved c =
    let page = c.args.page.now in
    let place = place_next page c.args.first c.loop.counter _ _ c.loop.invariant.place
    c.next_origin-origin.ensures.value in
    record {
      place = place;
      inside = on_page page c.args.first c.args.count _ _ c.requires.header c.requires.origins place;
      members = c.again.ensures.members ∙ c.loop.invariant.members;
      spelled = places_more page (λ o. IsSpelled page o c.args.fields.now) c.args.first c.loop.counter _
          c.loop.invariant.place (c.again.ensures.exact.0 c.if-not-again.false) c.loop.invariant.spelled;
    }

pub returns-clause-exact : goal.returns-clause-exact
returns-clause-exact c =
    let page = c.args.page.now in (
      λ _. All_of_walk page (λ o. IsSpelled page o c.args.fields.now) c.args.first _ _ c.loop-test.false
          c.loop.invariant.spelled,
      λ _. (cc),
    )
