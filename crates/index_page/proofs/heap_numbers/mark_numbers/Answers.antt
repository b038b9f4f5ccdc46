use Rattle.std.proofs.Common.{sym}
use Rattle.index_page.proofs.RecordWalk.{record_at_none}
use Rattle.index_page.proofs.ChainWalk.{on_page, place_next}
use Rattle.index_page.proofs.Turns.{turn_start, turn_next, turn_here, turn_end}
use Rattle.index_page.proofs.heap_numbers.mark_numbers.Goals as goal

pub loop-init : goal.loop-init
loop-init c =
    let page = c.args.page.now in
    let place = sym (record_at_none page c.args.first) in
    record {
      place = place;
      inside = on_page page c.args.first c.args.count 0 _ c.requires.header c.requires.origins place;
      goes = turn_start page _ _ _ _ _;
    }

pub returns-then-not-mark_number-clause-exact : goal.returns-then-not-mark_number-clause-exact
returns-then-not-mark_number-clause-exact c = (
  λ sound. (cc),
  λ all. c.if-not-mark_number.ensures.exact.1
      (turn_here c.args.page.now _ _ _ _ _ _ _ _ c.loop-test.true c.loop.invariant.goes all),
)

pub loop-preserved : goal.loop-preserved
loop-preserved c =
    let page = c.args.page.now in
    let next = c.next_origin-origin.ensures.value in
    let place = place_next page c.args.first c.loop.counter _ _ c.loop.invariant.place next in
    record {
      place = place;
      inside = on_page page c.args.first c.args.count _ _ c.requires.header c.requires.origins place;
      goes = turn_next page _ _ _ _ _ _ _ _ _ _ c.loop-test.true next
          (c.mark_number.ensures.exact.0 c.if-not-mark_number.false)
          (c.mark_number.ensures.marks c.if-not-mark_number.false) c.loop.invariant.goes;
    }

pub returns-clause-exact : goal.returns-clause-exact
returns-clause-exact c =
    let end = turn_end c.args.page.now _ _ _ _ _ _ _ _ c.loop-test.false c.loop.invariant.goes in
    (λ _. end.0, λ _. (cc))

pub returns-clause-marks : goal.returns-clause-marks
returns-clause-marks c = λ _. (turn_end c.args.page.now _ _ _ _ _ _ _ _ c.loop-test.false c.loop.invariant.goes).1
