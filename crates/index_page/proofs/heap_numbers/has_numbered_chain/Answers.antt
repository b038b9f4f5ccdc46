use Rattle.std.proofs.Common.{◌+◌, refl, sym, ◌∙◌, arith, eqb-true}
use Rattle.index_page.specs.Header.{first_record, record_count, records_of}
use Rattle.index_page.specs.Page.{IsOrigin}
use Rattle.index_page.proofs.RecordWalk.{record_at_none, places_more}
use Rattle.index_page.proofs.ChainWalk.{place_next, chain_ended}
use Rattle.index_page.proofs.CutWalk.{reach_first, reach_more, reach_end}
use Rattle.index_page.proofs.HeapNumbers.{numbers_of_turns}
use Rattle.index_page.proofs.Turns.{turn_start, turn_next, turn_end}
use Rattle.index_page.proofs.heap_numbers.has_numbered_chain.Goals as goal

pub loop-i-init : goal.loop-i-init
loop-i-init c =
    let page = c.args.page.now in
    let first = c.next_origin-origin.ensures.value in
    record {
      place = first ∙ sym (record_at_none page (first_record page));
      origins = λ k below. absurd (omega (arith, below));
      reaches = reach_first page _ _ _ _ refl (omega arith) first c.in-Some.ensures;
      goes = rw (c.clear.ensures, first) (turn_start page _ _ _ _ _);
    }

pub loop-i-preserved : goal.loop-i-preserved
loop-i-preserved c =
    let page = c.args.page.now in
    let next = c.next_origin-origin-in-loop-i.ensures.value in
    let here = c.loop-i.invariant in
    record {
      place = place_next page (first_record page) c.loop-i.i _ _ here.place next;
      origins = places_more page (IsOrigin page) (first_record page) c.loop-i.i _ here.place
          (c.is_origin.ensures.0 c.if-not-is_origin.false) here.origins;
      reaches = reach_more page _ _ _ _ _ _ (omega (arith, c.loop-i-test.true, c.record_count-i-end.ensures.value)) next
          c.in-Some-grow.ensures here.reaches;
      goes = turn_next page _ _ _ _ _ _ _ _ _ _ c.loop-i-test.true next
          (c.mark_number.ensures.exact.0 c.if-not-mark_number.false)
          (c.mark_number.ensures.marks c.if-not-mark_number.false) here.goes;
    }

pub returns-clause-chain : goal.returns-clause-chain
returns-clause-chain c = λ last.
    chain_ended c.args.page.now c.loop-i.i c.loop-i.origin (omega arith) c.loop-i.invariant.place
    c.loop-i.invariant.origins (eqb-true _ _ last)

pub returns-clause-had : goal.returns-clause-had
returns-clause-had c = λ _.
    let page = c.args.page.now in
    let end = turn_end page _ _ _ _ _ _ _ _ c.loop-i-test.false c.loop-i.invariant.goes in
    (numbers_of_turns page (records_of page)).0 (rw c.record_count-i-end.ensures.value at end.0)

pub returns-clause-marks : goal.returns-clause-marks
returns-clause-marks c = λ _.
    let end = turn_end c.args.page.now _ _ _ _ _ _ _ _ c.loop-i-test.false c.loop-i.invariant.goes in
    rw c.record_count-i-end.ensures.value at end.1

pub returns-clause-cut : goal.returns-clause-cut
returns-clause-cut c = λ last.
    let page = c.args.page.now in
    let end = eqb-true _ _ last in
    let chain = chain_ended page c.loop-i.i c.loop-i.origin (omega arith) c.loop-i.invariant.place
    c.loop-i.invariant.origins end in
    reach_end page c.loop-i.groups c.loop-i.origin (record_count page + 2) (c.loop-i.i + 1) chain refl (omega arith) end
    (c.are_whole.ensures c.if-not-are_whole.false) c.loop-i.invariant.reaches
