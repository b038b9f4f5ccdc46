use Rattle.std.proofs.Common.{◌/◌, None, get_or, sym, ◌∙◌, subst, arith, below_more}
use Rattle.std.proofs.lemmas.Bool.{false≢true}
use Rattle.extent_map.specs.Extents.{is_used, is_fragment_extent}
use Rattle.extent_map.proofs.Used.{used_below}
use Rattle.space_audit.proofs.Fragments.{and_left, and_right, both_true}
use Rattle.space_audit.specs.Audit.{ClaimCheck}
use Rattle.space_audit.specs.Holders.{IsOnce}
use Rattle.space_audit.proofs.ClaimSteps.{holder_tells, used_in_size}
use Rattle.space_audit.proofs.page_claims.check_holders.Goals.{else-is_claimable-via-then-is_claimable+else-not-is_once}
use Rattle.space_audit.proofs.page_claims.check_holders.Goals.{else-is_claimable-via-else-is_claimable}
use Rattle.space_audit.proofs.page_claims.check_holders.Goals as goal

pub returns-then-not-is_once : goal.returns-then-not-is_once
returns-then-not-is_once c = λ file h.
    let n = c.loop-n.n in
    let both = sym (c.is_claimable.ensures file h.extents_are) ∙ c.if-is_claimable.true in
    let used = and_left (is_used file n) (is_fragment_extent file (n / 64)) both in
    let fragment = and_right (is_used file n) (is_fragment_extent file (n / 64)) both in
    let tells = holder_tells file c.args.extents.now c.args.holders.now n h c.loop-n-test.true used in (
      n,
      used_below file n used,
      c.loop-n.invariant file h,
      (
        (used, fragment),
        (
          (λ once. false≢true (sym c.if-not-is_once.true ∙ c.is_once.ensures.1
              (subst (λ b. IsOnce b (get_or c.args.holders.now n 0)) (sym c.is_system_page.ensures) (tells.1 once)))),
          c.at.ensures,
        ),
      ),
    )

pub loop-n-preserved : goal.loop-n-preserved
loop-n-preserved c = λ file h.
    let n = c.loop-n.n in
    below_more (λ j. ClaimCheck file j None) n (c.loop-n.invariant file h) (λ u.
    let claimed = c.is_claimable.ensures file h.extents_are
    ∙ both_true (is_used file n) (is_fragment_extent file (n / 64)) u.0 u.1 in
    elim c.else-is_claimable.branch [
      | else-is_claimable-via-then-is_claimable+else-not-is_once w ↦
          (holder_tells file c.args.extents.now c.args.holders.now n h c.loop-n-test.true u.0).0
          (subst (λ b. IsOnce b (get_or c.args.holders.now n 0)) w.is_system_page.ensures
          (w.is_once.ensures.0 w.if-not-is_once.false))
      | else-is_claimable-via-else-is_claimable w ↦ absurd (false≢true (sym w.if-is_claimable.false ∙ claimed))
    ])

pub returns : goal.returns
returns c = λ file h j l u.
    let inside = used_in_size file c.used_pages_are_of_extents.ensures h.extents_are.whole h.extents_sound j u.0 in
    c.loop-n.invariant file h j (omega (arith, inside, h.size_is, c.loop-n-test.false)) u
