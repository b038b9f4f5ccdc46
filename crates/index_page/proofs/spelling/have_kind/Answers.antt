use Rattle.std.proofs.Common.{sym, ◌∙◌, arith}
use Rattle.index_page.specs.Header.{first_record}
use Rattle.index_page.specs.Page.{HasKind}
use Rattle.index_page.proofs.RecordWalk.{record_at_none, places_more, All_of_walk, All_at_place}
use Rattle.index_page.proofs.ChainWalk.{chain_on_page, place_next}
use Rattle.index_page.proofs.spelling.have_kind.Goals as goal

pub loop-init : goal.loop-init
loop-init c =
    let page = c.args.page.now in
    let place = c.next_origin-origin.ensures.value ∙ sym (record_at_none page (first_record page)) in
    record {
      place = place;
      inside = chain_on_page page _ _ _ c.record_count-end.ensures.value c.requires.header c.requires.chain place;
      kinds = λ k below. absurd (omega arith);
    }

pub returns-then-not-has_kind : goal.returns-then-not-has_kind
returns-then-not-has_kind c =
    let page = c.args.page.now in (
      λ sound. (cc),
      λ all. c.if-not-has_kind.ensures.1
          (All_at_place page (HasKind page c.args.leaf) (first_record page) _ _ _ all c.loop.invariant.place
          (omega arith)),
    )

pub loop-preserved : goal.loop-preserved
loop-preserved c =
    let page = c.args.page.now in
    let place = place_next page (first_record page) c.loop.counter _ _ c.loop.invariant.place
    c.next_origin-origin-in-loop.ensures.value in
    record {
      place = place;
      inside = chain_on_page page _ _ _ c.record_count-end.ensures.value c.requires.header c.requires.chain place;
      kinds = places_more page (HasKind page c.args.leaf) (first_record page) c.loop.counter _ c.loop.invariant.place
          (c.has_kind.ensures.0 c.if-not-has_kind.false) c.loop.invariant.kinds;
    }

pub returns : goal.returns
returns c =
    let page = c.args.page.now in (
      λ _. All_of_walk page (HasKind page c.args.leaf) (first_record page) _ _ (omega arith) c.loop.invariant.kinds,
      λ _. (cc),
    )
