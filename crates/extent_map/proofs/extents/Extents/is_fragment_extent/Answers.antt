use Rattle.std.proofs.Common.{◌≡◌, eqb, ◌||◌, ◌==◌, sym, ap, ◌∙◌, inl, inr}
use Rattle.std.proofs.lemmas.Bool.Decides.{eqb_tells}
use Rattle.extent_map.specs.Extents.{extent_state}
use Rattle.extent_map.proofs.Readers.{extent_there}
use Rattle.extent_map.proofs.extents.Extents.is_fragment_extent.Goals as goal

pub returns-then-state-eq-FREE_FRAG : goal.returns-then-state-eq-FREE_FRAG
returns-then-state-eq-FREE_FRAG c = λ file are.
    let x = c.extent.result.now in
    let is = extent_there file c.args.self.now c.args.e x are c.extent.ensures in
    let state : extent_state file c.args.e ≡ x.state = ap (λ y. y.state) is.same in
    ap (λ k. eqb k 2) c.if-state-eq-FREE_FRAG.true ∙ sym (ap (λ k. (k == 2) || (k == 3)) (state
    ∙ c.if-state-eq-FREE_FRAG.true))

pub returns-else-state-eq-FREE_FRAG : goal.returns-else-state-eq-FREE_FRAG
returns-else-state-eq-FREE_FRAG c = λ file are.
    let x = c.extent.result.now in
    let is = extent_there file c.args.self.now c.args.e x are c.extent.ensures in
    let state : extent_state file c.args.e ≡ x.state = ap (λ y. y.state) is.same in
    elim (eqb_tells x.state 2) [
      | inl q ↦ absurd (c.if-state-eq-FREE_FRAG.false q.1)
      | inr q ↦ sym (ap (λ k. (k == 2) || (k == 3)) state ∙ ap (λ b. b || (x.state == 3)) q.0)
    ]
