use Rattle.std.proofs.Common.{arith, eq-eqb, eqb-true, sym, ◌∙◌, ap}
use Rattle.compact_record.specs.Header.{next_origin}
use Rattle.index_page.specs.Header.{infimum}
use Rattle.index_page.proofs.RecordWalk.{record_at_none, record_at_more}
use Rattle.index_page.proofs.ChainWalk.{in_page}
use Rattle.index_page.proofs.CutWalk.{cut_start, cut_open, cut_close, cut_here, cut_end}
use Rattle.index_page.proofs.directory.is_cut.Goals as goal
use Rattle.index_page.proofs.directory.is_cut.Goals.{then-owned-eq0, else-owned-eq0+else-not-closes}

pub loop-init : goal.loop-init
loop-init c =
    let page = c.args.page.now in
    record {
      place = sym (record_at_none page infimum);
      inside = λ below. (omega arith, omega arith);
      goes = cut_start page _ c.requires.chain (omega arith);
    }

pub returns-then-not-closes : goal.returns-then-not-closes
returns-then-not-closes c = (
  λ sound. (cc),
  λ cut. c.if-not-closes.ensures.1 (cut_here c.args.page.now _ _ _ _ _ c.loop-test.true
      (λ none. c.if-owned-eq0.false (c.owned.ensures ∙ none)) c.loop.invariant.goes cut),
)

pub loop-preserved : goal.loop-preserved
loop-preserved c =
    let page = c.args.page.now in
    let next = c.next_origin-origin.ensures.value in
    let place = next ∙ ap (λ o. next_origin page o) c.loop.invariant.place
    ∙ sym (record_at_more page infimum c.loop.counter) in
    record {
      place = place;
      inside = in_page page _ _ _ (omega arith) c.requires.header c.requires.chain place;
      goes = elim c.if-owned-eq0.branch [
        | then-owned-eq0 w ↦ cut_open page _ _ _ _ _ _ _ _ c.loop-test.true next (sym c.owned.ensures
            ∙ w.if-owned-eq0.true) w.size-is w.slot-is c.loop.invariant.goes
        | else-owned-eq0+else-not-closes w ↦
            cut_close page _ _ _ _ _ _ _ _ c.loop-test.true next
            (λ none. w.if-owned-eq0.false (c.owned.ensures ∙ none)) (w.closes.ensures.0 w.if-not-closes.false)
            w.size-is w.slot-is c.loop.invariant.goes
      ];
    }

pub returns-then-slot-slot_count : goal.returns-then-slot-slot_count
returns-then-slot-slot_count c =
    let end = cut_end c.args.page.now _ _ _ _ _ c.loop-test.false c.loop.invariant.goes in
    (λ none. end.0 (omega arith, eqb-true _ _ none), λ cut. eq-eqb _ _ (end.1 cut).1)

pub returns-else-slot-slot_count : goal.returns-else-slot-slot_count
returns-else-slot-slot_count c =
    let end = cut_end c.args.page.now _ _ _ _ _ c.loop-test.false c.loop.invariant.goes in (
      λ all. absurd (c.if-slot-slot_count.false (eqb-true _ _ all)),
      λ cut. absurd (c.if-slot-slot_count.false (omega (arith, (end.1 cut).0))),
    )
