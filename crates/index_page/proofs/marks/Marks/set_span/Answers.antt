use Rattle.std.proofs.Common.{sym, ◌∙◌, ap, subst, arith}
use Rattle.index_page.specs.Marks.{Seen, bits_of, with_span, IsUnmarked}
use Rattle.index_page.proofs.MarkBits.{with_span_none, with_span_join, unmarked_join, unmarked_part}
use Rattle.index_page.proofs.marks.Marks.set_span.Goals as goal

pub loop-here-init : goal.loop-here-init
loop-here-init c =
    record {
      least = omega arith;
      most = omega arith;
      marks = sym (with_span_none (bits_of c.args.self.now) c.args.from c.args.from (omega arith));
      free = λ k least most. absurd (omega arith);
    }

pub returns-then-not-set_in_word-clause-exact : goal.returns-then-not-set_in_word-clause-exact
returns-then-not-set_in_word-clause-exact c =
    let P : Seen → Type 0 = λ seen. IsUnmarked seen c.loop-here.here c.min-end.result in
    let old = bits_of c.args.self.now in
    let least = c.loop-here.invariant.least in
    let most = c.min-end.ensures in (
      λ sound. (cc),
      λ free. c.if-not-set_in_word.ensures.exact.1
          (subst P (sym c.loop-here.invariant.marks) (unmarked_part old c.args.from c.loop-here.here c.min-end.result
          c.args.to least (omega arith) free)),
    )

pub loop-here-preserved : goal.loop-here-preserved
loop-here-preserved c =
    let P : Seen → Type 0 = λ seen. IsUnmarked seen c.loop-here.here c.min-end.result in
    let old = bits_of c.args.self.now in
    let least = c.loop-here.invariant.least in
    let most = c.min-end.ensures in
    record {
      least = omega arith;
      most = omega arith;
      marks = c.set_in_word.ensures.marks ∙ ap (λ seen. with_span seen c.loop-here.here c.min-end.result)
          c.loop-here.invariant.marks
          ∙ with_span_join old c.args.from c.loop-here.here c.min-end.result least (omega arith);
      free = unmarked_join old c.args.from c.loop-here.here c.min-end.result least c.loop-here.invariant.free
          (subst P c.loop-here.invariant.marks (c.set_in_word.ensures.exact.0 c.if-not-set_in_word.false));
    }
