use Rattle.std.proofs.Common.{◌≡◌, ℕ, length, filter, refl, sym, ap, ◌∙◌, subst}
use Rattle.std.proofs.Common.{arith}
use Rattle.std.specs.List.{range_with_len}
use Rattle.std.proofs.lemmas.Bool.{true≢false}
use Rattle.page_source.specs.Verdict.{AllBelow}
use Rattle.space_header.specs.Header.{size_of}
use Rattle.table_check.specs.First.{UnreachedCheck, is_segment_owner, is_unreached}
use Rattle.table_check.proofs.UnreachedSteps.{no_segment, not_used, reached, unreached, held_no, held_yes, count_no}
use Rattle.table_check.proofs.UnreachedSteps.{count_yes}
use Rattle.table_check.proofs.unreached.count_unreached.Goals as goal

pub loop-n-init : goal.loop-n-init
loop-n-init c = record {
  few = omega arith;
  held = λ file table audit leaves marked j below. absurd (omega (arith, below));
  counted = λ file table audit marked. refl;
}

pub loop-n-preserved-in_default : goal.loop-n-preserved-in_default
loop-n-preserved-in_default c =
    let inv = c.loop-n.invariant in
    let n = c.loop-n.n in
    let none = no_segment c.owner.result c.in_default.not-Used in
    record {
      few = omega (arith, inv.few);
      held = λ file table audit leaves marked. held_no file table n (inv.held file table audit leaves marked)
          (not_used file table n (ap is_segment_owner (sym (c.owner.ensures.told file audit)) ∙ none));
      counted = λ file table audit marked. count_no file table n c.loop-n.count (inv.counted file table audit marked)
          (not_used file table n (ap is_segment_owner (sym (c.owner.ensures.told file audit)) ∙ none));
    }

pub loop-n-preserved-then-has : goal.loop-n-preserved-then-has
loop-n-preserved-then-has c =
    let inv = c.loop-n.invariant in
    let n = c.loop-n.n in
    record {
      few = omega (arith, inv.few);
      held = λ file table audit leaves marked. held_no file table n (inv.held file table audit leaves marked)
          (reached file table n (sym (marked n) ∙ sym c.has.ensures ∙ c.if-has.true));
      counted = λ file table audit marked. count_no file table n c.loop-n.count (inv.counted file table audit marked)
          (reached file table n (sym (marked n) ∙ sym c.has.ensures ∙ c.if-has.true));
    }

pub returns-then-not-is_left_over-clause-exact : goal.returns-then-not-is_left_over-clause-exact
returns-then-not-is_left_over-clause-exact c = λ file table audit leaves marked.
    let n = c.loop-n.n in
    let used = sym (c.owner.ensures.told file audit) ∙ c.in-Used.is in (
      n,
      omega (arith, c.loop-n-test.true, c.size-n-end.ensures.is, audit.has_size),
      c.loop-n.invariant.held file table audit leaves marked,
      (
        unreached file table n c.in-Used.segment used (sym (marked n) ∙ sym c.has.ensures ∙ c.if-has.false),
        (
          λ left. true≢false (sym ((c.is_left_over.ensures file table audit leaves used).1 left)
              ∙ c.if-not-is_left_over.true),
          c.at.ensures,
        ),
      ),
    )

pub overflow_add-count : goal.overflow_add-count
overflow_add-count c = omega (arith, c.loop-n.invariant.few, c.loop-n-test.true, c.size-n-end.ensures.most)

pub loop-n-preserved : goal.loop-n-preserved
loop-n-preserved c =
    let inv = c.loop-n.invariant in
    let n = c.loop-n.n in
    record {
      few = omega (arith, inv.few);
      held = λ file table audit leaves marked.
          let used = sym (c.owner.ensures.told file audit) ∙ c.in-Used.is in
          held_yes file table n (inv.held file table audit leaves marked)
          ((c.is_left_over.ensures file table audit leaves used).0 c.if-not-is_left_over.false);
      counted = λ file table audit marked.
          let used = sym (c.owner.ensures.told file audit) ∙ c.in-Used.is in
          count_yes file table n c.loop-n.count (inv.counted file table audit marked)
          (unreached file table n c.in-Used.segment used (sym (marked n) ∙ sym c.has.ensures ∙ c.if-has.false));
    }

pub returns-clause-exact : goal.returns-clause-exact
returns-clause-exact c = λ file table audit leaves marked.
    let e : c.loop-n.n ≡ size_of file =
    omega (arith, c.loop-n-test.false, c.loop-n.auto.n-end, c.size-n-end.ensures.is, audit.has_size) in
    subst (AllBelow (UnreachedCheck file table)) e (c.loop-n.invariant.held file table audit leaves marked)

pub returns-clause-count : goal.returns-clause-count
returns-clause-count c = λ file table audit marked.
    let e : c.loop-n.n ≡ size_of file =
    omega (arith, c.loop-n-test.false, c.loop-n.auto.n-end, c.size-n-end.ensures.is, audit.has_size) in
    c.loop-n.invariant.counted file table audit marked
    ∙ ap (λ (k : ℕ). length (filter (is_unreached file table) (range_with_len 0 k))) e
