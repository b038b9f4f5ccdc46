use Rattle.std.proofs.Common.{◌≡◌, ◌%◌, true, ◌||◌, ◌==◌, sym, ap, ◌∙◌, eq-eqb}
use Rattle.std.proofs.lemmas.Bool.{eqb-true}
use Rattle.extent_map.specs.Extents.{is_fragment_extent, extent_state}
use Rattle.extent_map.proofs.Uses.{first_two}
use Rattle.extent_map.proofs.checks.has_system_pages.Goals as goal
use Rattle.extent_map.proofs.checks.has_system_pages.Goals.{then-extent-eq-FREE_FRAG, else-extent-eq-FREE_FRAG}

pub returns-then-extent-eq-FULL_FRAG : goal.returns-then-extent-eq-FULL_FRAG
returns-then-extent-eq-FULL_FRAG c = λ file is.
    let x = c.args.extent.now in
    let e = c.args.e in
    let two = first_two file e x is in
    let state : extent_state file e ≡ x.state = ap (λ y. y.state) is.same in
    let fragment : is_fragment_extent file e ≡ true = elim c.if-extent-eq-FREE_FRAG.branch [
      | then-extent-eq-FREE_FRAG w ↦ ap (λ k. (k == 2) || (k == 3)) (state ∙ w.if-extent-eq-FREE_FRAG.true)
      | else-extent-eq-FREE_FRAG w ↦ ap (λ k. (k == 2) || (k == 3)) (state ∙ eqb-true x.state 3 (sym w.value-is
          ∙ c.if-extent-eq-FULL_FRAG.true))
    ] in (
      λ t. let p = two.0 (eqb-true (x.used % 4) 3 t) in record { fragment = fragment; descriptor = p.0; bitmap = p.1 },
      λ h. eq-eqb (x.used % 4) 3 (two.1 h.descriptor h.bitmap),
    )
