use Rattle.std.proofs.Common.{eqb, not, sym, ap, ◌∙◌, inl, inr, arith, eq-eqb}
use Rattle.std.proofs.lemmas.Bool.{eqb-true, false≢true}
use Rattle.std.proofs.lemmas.Bool.Decides.{eqb_tells}
use Rattle.extent_map.specs.Extents.{extent_state, used_count}
use Rattle.extent_map.proofs.Uses.{counts, free_fits, some_fits, full_fits}
use Rattle.extent_map.proofs.checks.fits_use.Goals as goal

pub returns-in-1 : goal.returns-in-1
returns-in-1 c = λ file is.
    let x = c.args.extent.now in
    let n = counts file c.args.e x is in
    free_fits (extent_state file c.args.e) (used_count file c.args.e) (eqb x.used 0) (ap (λ y. y.state) is.same
    ∙ c.in-1.is)
    (λ t. n.none (eqb-true x.used 0 t))
    (λ none. elim (eqb_tells x.used 0) [ inl q ↦ q.0 | inr q ↦ absurd (omega (arith, none, n.some q.1)) ])

pub returns-then-used-ne0 : goal.returns-then-used-ne0
returns-then-used-ne0 c = λ file is.
    let x = c.args.extent.now in
    let n = counts file c.args.e x is in
    some_fits (extent_state file c.args.e) (used_count file c.args.e) (not (eqb x.used 18446744073709551615)) (ap
    (λ y. y.state) is.same ∙ c.in-2.is)
    (λ t. (
      n.some c.if-used-ne0.true,
      n.room (λ full. false≢true (sym (ap not
          (eq-eqb x.used 18446744073709551615 full)) ∙ t)),
    ))
    (λ _ room. elim (eqb_tells x.used 18446744073709551615) [
      | inl q ↦ absurd (omega
          (arith, room, n.full q.1))
      | inr q ↦ ap not q.0
    ])

pub returns-else-used-ne0 : goal.returns-else-used-ne0
returns-else-used-ne0 c = λ file is.
    let x = c.args.extent.now in
    let n = counts file c.args.e x is in
    some_fits (extent_state file c.args.e) (used_count file c.args.e) (not (eqb x.used 0)) (ap
    (λ y. y.state) is.same ∙ c.in-2.is)
    (λ t. absurd (false≢true (sym (ap not (eq-eqb x.used 0 c.if-used-ne0.false)) ∙ t)))
    (λ some _. absurd (omega (arith, some, n.none c.if-used-ne0.false)))

pub returns-in-3 : goal.returns-in-3
returns-in-3 c = λ file is.
    let x = c.args.extent.now in
    let n = counts file c.args.e x is in
    full_fits (extent_state file c.args.e) (used_count file c.args.e) (eqb x.used 18446744073709551615) (ap
    (λ y. y.state) is.same ∙ c.in-3.is)
    (λ t. n.full (eqb-true x.used 18446744073709551615 t))
    (λ full. elim (eqb_tells x.used 18446744073709551615) [
      | inl q ↦ q.0
      | inr q ↦ absurd (omega
          (arith, full, n.room q.1))
    ])
