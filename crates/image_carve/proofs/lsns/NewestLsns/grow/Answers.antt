use Rattle.std.proofs.Common.{List, Option, ℕ, false, refl, subst, arith}
use Rattle.image_carve.specs.Carving.{Grows, marked}
use Rattle.image_carve.proofs.Noted.{grows_longer, grows_not}
use Rattle.image_carve.proofs.lsns.NewestLsns.grow.Goals as goal

pub returns-then-len-count : goal.returns-then-len-count
returns-then-len-count c =
    let marks = c.self.inside.marks in
    subst (λ (noted : List (Option ℕ)). Grows noted noted c.args.n) c.self.view_is
    (grows_not marks.items c.self.inside.lsns.items c.args.n c.self.invariant.0
    (omega (arith, c.if-len-count.true, c.len.ensures, marks.ok.0)))

pub returns : goal.returns
returns c =
    let marks = c.self.inside.marks in
    let lsns = c.self.inside.lsns in
    let more = c.resize-2.new.self in
    let wide = c.resize.new.self in
    subst (λ (noted : List (Option ℕ)). Grows noted (marked more.items wide.items) c.args.n) c.self.view_is
    (grows_longer marks.items more.items lsns.items wide.items c.args.n
    (record {
      room = c.self.invariant.0;
      few = omega (arith, c.if-len-count.false, c.len.ensures, marks.ok.0);
      size = omega (arith, c.in_ok-resize-2.ensures.len, more.ok.0);
      same_size = omega (arith, c.in_ok-resize.ensures.len, wide.ok.0);
      marks_same = λ k within below.
          c.in_ok-resize-2.ensures.by_index.0 k false within (omega (arith, below, marks.ok.0));
      no_marks = λ k past within.
          c.in_ok-resize-2.ensures.by_index.1 k false refl (omega (arith, past, marks.ok.0)) within;
      same = λ k within below. c.in_ok-resize.ensures.by_index.0 k 0 within (omega (arith, below, lsns.ok.0));
    }))
