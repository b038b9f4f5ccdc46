-- Marks of the members of a list.
use Rattle.std.proofs.Common.{◌≡◌, ℕ, ◌+◌, ◌<◌, Bool, true, false, cond, not, List, [], ◌∷◌, ◌++◌, length, get_or, set}
use Rattle.std.proofs.Common.{Contains, sym, ◌∙◌, subst, inl, inr, arith, get_or-set_same, get_or-set_other, length-set}
use Rattle.std.proofs.lemmas.List.Sums.{sum_by-set}
use Rattle.std.proofs.lemmas.List.Elements.{Contains-append_left, Contains-push, Contains-push_cases}
use Rattle.std.proofs.lemmas.Bool.Decides.{eqb_tells}
use Rattle.page_source.specs.Lists.{IsMarked, AreMarked, unmarked}

pub unmarked_fewer : (marks : List Bool) (i : ℕ) → i < length marks → get_or marks i false ≡ false
    → unmarked (set marks i true) + 1 ≡ unmarked marks
unmarked_fewer marks i h e =
    let s = sum_by-set (λ x. cond (not x) 1 0) marks i true false h in
    let t = rw e at s in
    omega (arith, t)

pub marked_more : (marks : List Bool) (list : List ℕ) (i : ℕ) → i < length marks → AreMarked marks list
    → AreMarked (set marks i true) (list ++ i ∷ [])
marked_more marks list i h m = λ n l. elim (eqb_tells i n) [
  | inl q ↦ (
    λ _. subst (λ k. Contains (list ++ i ∷ []) k) q.1 (Contains-push list i),
    λ _. subst
        (λ k. IsMarked (set marks i true) k) q.1 (get_or-set_same marks i true false h),
  )
  | inr q ↦
      let there : n < length marks = omega (arith, l, length-set marks i true) in
      let same : get_or (set marks i true) n false ≡ get_or marks n false =
      get_or-set_other marks i n true false (λ e. q.1 (sym e)) in (
        λ e. Contains-append_left list (i ∷ []) n ((m n there).0 (sym same ∙ e)),
        λ c. elim (Contains-push_cases list i n c) [ inl k ↦ same ∙ (m n there).1 k | inr e ↦ absurd (q.1 e) ],
      )
]
