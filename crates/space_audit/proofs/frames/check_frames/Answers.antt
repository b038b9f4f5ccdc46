use Rattle.std.proofs.Common.{◌+◌, ◌<◌, length, is_some, ◌∷◌, [], ap, length-append, None, Ok, ◌∙◌, arith, below_more}
use Rattle.std.proofs.lemmas.Result.{err_from_is_err_and}
use Rattle.std.specs.Option.{unwrap_or}
use Rattle.page_source.proofs.Told.{map_told2}
use Rattle.space_audit.specs.Audit.{FrameCheck}
use Rattle.space_audit.proofs.PageFrames.{frame_stops, cost_more, cost_used, cost_all, kinds_more, frames_hold}
use Rattle.space_audit.proofs.PageFrames.{one_at_most}
use Rattle.space_audit.proofs.frames.check_frames.Goals as goal

pub returns-in_err-kind-clause-exact : goal.returns-in_err-kind-clause-exact
returns-in_err-kind-clause-exact g c =
    let r = err_from_is_err_and c.from_residual-in_err-kind.result c.from_residual-in_err-kind.ensures.1 in
    let here = rw c.loop-n.invariant.same at c.in_err-kind.ensures.exact in
    rw (r.1, r.2) (map_told2 (g.S.PageSource.content c.args.source.now)
    (λ file below broken. frame_stops file c.loop-n.n c.in_err-kind.field-0.0 below broken)
    c.loop-n.invariant.checks here)

pub returns-in_err-kind-clause-cost : goal.returns-in_err-kind-clause-cost
returns-in_err-kind-clause-cost g c =
    let pages = c.args.inodes.now.pages in
    let n = c.loop-n.n in
    let inside : n < length pages = omega (arith, c.loop-n-test.true, c.requires.pages) in
    omega (
      arith,
      c.in_err-kind.ensures.cost,
      c.loop-n.invariant.cost,
      cost_more pages n inside,
      cost_all pages
          (n + 1),
    )

pub loop-n-preserved : goal.loop-n-preserved
loop-n-preserved g c =
    let o = g.S.PageSource.content c.args.source.now in
    let pages = c.args.inodes.now.pages in
    let n = c.loop-n.n in
    let i = c.loop-n.invariant in
    let inside : n < length pages = omega (arith, c.loop-n-test.true, c.requires.pages) in
    let checked = rw i.same at c.in_ok-kind.ensures.exact in
    let kind = rw i.same at c.in_ok-kind.ensures.kind in
    record {
      same = c.find_kind.ensures.over.same ∙ i.same;
      later = omega (arith, i.later, c.find_kind.ensures.over.cause.later);
      asked = omega (arith, i.asked, c.find_kind.ensures.over.asked);
      cost = omega (arith, c.in_ok-kind.ensures.cost, i.cost, cost_more pages n inside);
      count = ap length c.in_ok-push.ensures.kinds
          ∙ (length-append c.loop-n.kinds.kinds.items (unwrap_or c.in_ok-kind.kind 0 ∷ []) ∙ ap (λ k. k + 1) i.count);
      used = omega (
        arith,
        i.used,
        c.in_ok-push.ensures.used,
        cost_more pages n inside,
        cost_used pages n c.in_ok-kind.kind c.loop-n.steps c.find_kind.new.steps c.in_ok-kind.ensures.cost
            (λ none. c.in_ok-kind.ensures.unused (ap Ok none)) c.in_ok-kind.ensures.listed,
      );
      few = omega (arith, c.in_ok-push.ensures.used, one_at_most (is_some c.in_ok-kind.kind), i.few);
      checks = map_told2 o (λ file below here. below_more (λ j. FrameCheck file j None) n below here) i.checks checked;
      kinds = map_told2 o (λ file so_far here. rw (c.in_ok-push.ensures.kinds, c.in_ok-push.ensures.used)
          (kinds_more file n c.loop-n.kinds.kinds.items c.loop-n.kinds.used c.in_ok-kind.kind i.count so_far here))
          i.kinds kind;
    }

pub returns-clause-exact : goal.returns-clause-exact
returns-clause-exact g c =
    map_told2 (g.S.PageSource.content c.args.source.now)
    (λ file h below. frames_hold file c.used_pages_are_of_extents.ensures c.args.space c.args.extents.now
    c.args.inodes.now c.args.owners.now h
    (λ j l. below j (omega (arith, l, c.loop-n-test.false))))
    c.requires.told c.loop-n.invariant.checks
