use Rattle.std.proofs.Common.{sym, ◌∙◌, refl, arith}
use Rattle.std.proofs.lemmas.Bool.{false≢true}
use Rattle.index_page.specs.Header.{first_record}
use Rattle.index_page.specs.Page.{HasMarkAt}
use Rattle.index_page.proofs.RecordWalk.{record_at_none, numbered_more, numbered_all, numbered_at}
use Rattle.index_page.proofs.ChainWalk.{chain_on_page, place_next}
use Rattle.index_page.proofs.minimum_mark.mark_fault.Goals as goal

pub loop-i-init : goal.loop-i-init
loop-i-init c =
    let page = c.args.page.now in
    let place = c.next_origin-origin.ensures.value ∙ sym (record_at_none page (first_record page)) in
    record {
      place = place;
      inside = chain_on_page page _ _ _ c.record_count-i-end.ensures.value c.requires.header c.requires.chain place;
      marks = λ k below. absurd (omega arith);
    }

pub returns-then-not-has_mark_at : goal.returns-then-not-has_mark_at
returns-then-not-has_mark_at c =
    let page = c.args.page.now in (
      λ sound. absurd (false≢true (sym sound)),
      λ marks. absurd (false≢true (c.if-not-has_mark_at.ensures.1
          (numbered_at page (HasMarkAt page c.args.leaf c.args.leftmost) (first_record page) _ _ _ marks
          c.loop-i.invariant.place (omega arith)))),
    )

pub loop-i-preserved : goal.loop-i-preserved
loop-i-preserved c =
    let page = c.args.page.now in
    let place = place_next page (first_record page) c.loop-i.i _ _ c.loop-i.invariant.place
    c.next_origin-origin-in-loop-i.ensures.value in
    record {
      place = place;
      inside = chain_on_page page _ _ _ c.record_count-i-end.ensures.value c.requires.header c.requires.chain place;
      marks = numbered_more page (HasMarkAt page c.args.leaf c.args.leftmost) (first_record page) c.loop-i.i _
          c.loop-i.invariant.place (c.has_mark_at.ensures.0 c.if-not-has_mark_at.false) c.loop-i.invariant.marks;
    }

pub returns : goal.returns
returns c =
    let page = c.args.page.now in (
      λ _. numbered_all page (HasMarkAt page c.args.leaf c.args.leftmost) (first_record page) _ _ (omega arith)
          c.loop-i.invariant.marks,
      λ _. refl,
    )
