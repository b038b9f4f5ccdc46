use Rattle.std.proofs.Common.{◌≡◌, Ok, None, true, false, refl, arith, rules}
use Rattle.page_scan.proofs.Turns.{failed_told, ends, found_told, passed_more, never_told}
use Rattle.page_scan.proofs.scanner.Scanner.next.Goals as goal

pub returns-in_err-refill-clause-scans : goal.returns-in_err-refill-clause-scans
returns-in_err-refill-clause-scans g c =
    failed_told _ _ _ c.loop-turn._turn c.loop-turn.page c.from_residual.result _ c.from_residual.ensures.1
    c.loop-turn.invariant.passed c.refill.ensures.rest

pub returns-then-not-branch-clause-scans : goal.returns-then-not-branch-clause-scans
returns-then-not-branch-clause-scans g c =
    let left = g.Q.ByteSource.left in
    let is : c.refill.result ≡ Ok false = cc in
    (ends _ c.loop-turn._turn c.refill.new.self c.loop-turn.self (left c.loop-turn.source) (left c.refill.new.source)
    c.loop-turn.page c.loop-turn.invariant.passed c.refill.ensures.rest (c.refill.ensures.ended is)
    (c.refill.ensures.left is)).0

pub returns-then-is_some-clause-scans : goal.returns-then-is_some-clause-scans
returns-then-is_some-clause-scans g c =
    let left = g.Q.ByteSource.left in
    found_told _ _ c.loop-turn._turn c.refill.new.self c.look-found.new.self (left c.refill.new.source)
    c.look-found.result c.look-found.new.page c.loop-turn.invariant.passed c.refill.ensures.rest c.look-found.ensures
    (λ (none : c.look-found.result ≡ None). search rules)

pub loop-turn-preserved : goal.loop-turn-preserved
loop-turn-preserved g c =
    let left = g.Q.ByteSource.left in
    let is : c.refill.result ≡ Ok true = cc in
    record {
      passed = passed_more _ _ c.loop-turn._turn c.refill.new.self c.look-found.new.self (left c.refill.new.source)
          c.look-found.result c.look-found.new.page c.loop-turn.invariant.passed c.refill.ensures.rest
          c.look-found.ensures (search rules) (c.refill.ensures.whole is);
      later = omega (arith, c.loop-turn.invariant.later, c.refill.ensures.cause.later);
    }

pub returns-clause-scans : goal.returns-clause-scans
returns-clause-scans g c =
    let left = g.Q.ByteSource.left in
    (never_told _ _ (left c.loop-turn.source) c.loop-turn.self c.loop-turn._turn c.loop-turn.page
    c.loop-turn.invariant.passed refl (omega (arith, c.loop-turn-test.false))).0

pub returns-clause-ended : goal.returns-clause-ended
returns-clause-ended g c =
    let left = g.Q.ByteSource.left in
    λ _. (never_told _ _ (left c.loop-turn.source) c.loop-turn.self c.loop-turn._turn c.loop-turn.page
    c.loop-turn.invariant.passed refl (omega (arith, c.loop-turn-test.false))).1
