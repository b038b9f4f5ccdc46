-- Outcomes one after another.
use Rattle.std.proofs.Common.{◌≡◌, ℕ, List, [], ◌∷◌, ◌++◌, length, take, get_or, sym, subst, inl, inr}
use Rattle.std.proofs.Common.{arith, length-append}
use Rattle.std.proofs.Math.Seq.{take-append_seam, get_or-append_seam}
use Rattle.std.proofs.lemmas.Bool.{cases_lt}
use Rattle.std.proofs.lemmas.List.{take-append-le, get_or_append_left}
use Rattle.salvage_model.specs.Follow.{Follow}

pub follow_none : {X : Type 0} (Fits : List X → ℕ → X → Type 0) → Follow Fits []
follow_none Fits k d below = absurd (omega (arith, below))

-- one outcome more, after those before it
pub follow_more : {X : Type 0} (Fits : List X → ℕ → X → Type 0) (outcomes : List X) (x : X) → Follow Fits outcomes
    → Fits outcomes (length outcomes) x → Follow Fits (outcomes ++ x ∷ [])
follow_more {X = X} Fits outcomes x follow fits k d below =
    elim (cases_lt k (length outcomes)) [
      | inl less ↦
          subst (λ (front : List X). Fits front k (get_or (outcomes ++ x ∷ []) k d))
          (sym (take-append-le k outcomes (x ∷ []) (omega arith)))
          (subst (λ (y : X). Fits (take k outcomes) k y) (sym (get_or_append_left outcomes (x ∷ []) d k less))
          (follow k d less))
      | inr more ↦
          let last : length outcomes ≡ k = omega (arith, below, more, length-append outcomes (x ∷ [])) in
          let here : Fits (take (length outcomes) (outcomes ++ x ∷ [])) (length outcomes)
          (get_or (outcomes ++ x ∷ []) (length outcomes) d) =
          subst (λ (front : List X). Fits front (length outcomes) (get_or (outcomes ++ x ∷ []) (length outcomes) d))
          (sym (take-append_seam outcomes (x ∷ [])))
          (subst (λ (y : X). Fits outcomes (length outcomes) y) (sym (get_or-append_seam outcomes x [] d)) fits) in
          subst (λ (i : ℕ). Fits (take i (outcomes ++ x ∷ [])) i (get_or (outcomes ++ x ∷ []) i d)) last here
    ]
