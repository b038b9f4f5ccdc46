-- The checks of a leaf are the first ones of an index page.
use Rattle.std.proofs.Common.{◌≡◌, ℕ, ◌⊎◌, inl, inr, sym, ◌∙◌, List, Some, None, true, Bool}
use Rattle.page_source.specs.declared.rule.Rule.{Rule}
use Rattle.page_source.specs.declared.rule.Rule.TheVariants.{PageHeader, PageEnds, RecordChain, HeapNumbers}
use Rattle.page_source.specs.declared.rule.Rule.TheVariants.{FreeList, Directory, RecordKind, RecordSpelling}
use Rattle.page_source.specs.declared.rule.Rule.TheVariants.{RecordRoom, EmptyPage, KeyOrder}
use Rattle.column_values.specs.Types.{Fields}
use Rattle.index_page.specs.PageChecks.{PageChecks}
use Rattle.leaf_salvage.specs.Leaf.{LeafChecks}

-- where no check of an index page is broken
pub checks_none : (page : List ℕ) (fields : Fields) (root leftmost : Bool)
    → PageChecks page fields true root leftmost None → LeafChecks page fields None
unfolding PageChecks LeafChecks
checks_none page fields root leftmost c = (
  c.0,
  (
    c.1.0,
    (
      c.1.1.0,
      (
        c.1.1.1.0,
        (
          c.1.1.1.1.0,
          (
            c.1.1.1.1.1.0,
            (c.1.1.1.1.1.1.0, (c.1.1.1.1.1.1.1.0, c.1.1.1.1.1.1.1.1.0)),
          ),
        ),
      ),
    ),
  ),
)

drop_first : {A B C D : Type 0} → A ⊎ (B × C) → (A → ⊥) → (C → D) → B × D
drop_first s not_a f = elim s [ inl a ↦ absurd (not_a a) | inr p ↦ (p.0, f p.1) ]

keep_first : {A B C D : Type 0} → A ⊎ (B × C) → (C → D) → A ⊎ (B × D)
keep_first s f = elim s [ inl a ↦ inl a | inr p ↦ inr (p.0, f p.1) ]

-- a rule of a leaf's checks is none of those after them
not_later : (rule first : Rule) → ¬ (first ≡ EmptyPage) → ¬ (first ≡ KeyOrder)
    → (rule ≡ EmptyPage) ⊎ (rule ≡ KeyOrder) → ¬ (rule ≡ first)
not_later rule first not-empty not-order later same =
    elim later [ inl e ↦ not-empty (sym same ∙ e) | inr e ↦ not-order (sym same ∙ e) ]

-- where the first broken one comes after those of a leaf
pub checks_after : (page : List ℕ) (fields : Fields) (root leftmost : Bool) (rule : Rule)
    → (rule ≡ EmptyPage) ⊎ (rule ≡ KeyOrder)
    → PageChecks page fields true root leftmost (Some rule) → LeafChecks page fields None
unfolding PageChecks LeafChecks
checks_after page fields root leftmost rule later c =
    drop_first c (λ h. not_later rule PageHeader (λ e. cc) (λ e. cc) later h.1) (λ c1.
    drop_first c1 (λ h. not_later rule PageEnds (λ e. cc) (λ e. cc) later h.1) (λ c2.
    drop_first c2 (λ h. not_later rule RecordChain (λ e. cc) (λ e. cc) later h.1) (λ c3.
    drop_first c3 (λ h. not_later rule HeapNumbers (λ e. cc) (λ e. cc) later h.1) (λ c4.
    drop_first c4 (λ h. not_later rule FreeList (λ e. cc) (λ e. cc) later h.1) (λ c5.
    drop_first c5 (λ h. not_later rule Directory (λ e. cc) (λ e. cc) later h.1) (λ c6.
    drop_first c6 (λ h. not_later rule RecordKind (λ e. cc) (λ e. cc) later h.1) (λ c7.
    drop_first c7 (λ h. not_later rule RecordSpelling (λ e. cc) (λ e. cc) later h.1) (λ c8.
    elim c8 [
      | inl room ↦ absurd (not_later rule RecordRoom (λ e. cc) (λ e. cc) later room.1)
      | inr p ↦ p.0
    ]))))))))

-- where it is one of those
pub checks_among : (page : List ℕ) (fields : Fields) (root leftmost : Bool) (rule : Rule)
    → ¬ (rule ≡ EmptyPage) → ¬ (rule ≡ KeyOrder)
    → PageChecks page fields true root leftmost (Some rule) → LeafChecks page fields (Some rule)
unfolding PageChecks LeafChecks
checks_among page fields root leftmost rule not-empty not-order c =
    keep_first c (λ c1.
    keep_first c1 (λ c2.
    keep_first c2 (λ c3.
    keep_first c3 (λ c4.
    keep_first c4 (λ c5.
    keep_first c5 (λ c6.
    keep_first c6 (λ c7.
    keep_first c7 (λ c8. elim c8 [
      | inl room ↦ room
      | inr p ↦ elim p.1 [ inl empty ↦ absurd (not-empty empty.1) | inr q ↦ absurd (not-order q.1.1) ]
    ]))))))))
