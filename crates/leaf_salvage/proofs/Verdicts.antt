-- A page has at most one verdict.
use Rattle.std.proofs.Common.{◌≡◌, inl, inr, ℕ, List, Option, Some, None, replicate, refl, sym, ap, ◌∙◌}
use Rattle.page_source.specs.declared.rule.Rule.{Rule}
use Rattle.page_source.specs.Pages.{num}
use Rattle.page_source.proofs.Unique.{IsUnique, Check-unique, Then-unique, Where-unique, some_is_not_none}
use Rattle.fil_frame.specs.Kinds.{index_kind}
use Rattle.fil_frame.specs.Frame.{kind_of}
use Rattle.column_values.specs.Types.{Fields}
use Rattle.leaf_salvage.specs.declared.verdict.Verdict.{Verdict}
use Rattle.leaf_salvage.specs.declared.verdict.Verdict.TheVariants.{Other, Lost, Leaf}
use Rattle.leaf_salvage.specs.Leaf.{IsZeros, IsLeafOf, IsWholeLeaf, LeafChecks, WrittenChecks, LeafVerdict}

zero_kind : kind_of (replicate 16384 0) ≡ 0
unfolding num
zero_kind = refl

zeros_no_leaf : (page : List ℕ) (id : ℕ) → IsZeros page → IsLeafOf page id → ⊥
zeros_no_leaf page id zeros leaf =
    let kind : index_kind ≡ 0 = sym leaf.kind ∙ ap (λ (p : List ℕ). kind_of p) zeros ∙ zero_kind in
    cc

-- another page isn't lost, and is no leaf
other_lost : (page : List ℕ) (n id : ℕ) (fields : Fields) (rule : Rule) → LeafVerdict page n id fields Other
    → LeafVerdict page n id fields (Lost rule) → ⊥
other_lost page n id fields rule (inl zeros) lost = lost.0 zeros
other_lost page n id fields rule (inr other) lost =
    elim lost.1 [ inl frame ↦ frame.0 other.0 | inr p ↦ other.1 p.1.0 ]

other_leaf : (page : List ℕ) (n id : ℕ) (fields : Fields) → LeafVerdict page n id fields Other
    → LeafVerdict page n id fields Leaf → ⊥
other_leaf page n id fields (inl zeros) leaf = zeros_no_leaf page id zeros leaf.of
other_leaf page n id fields (inr other) leaf = other.1 leaf.of

leaf_unique : (page : List ℕ) (fields : Fields) → IsUnique (LeafChecks page fields)
unfolding LeafChecks
leaf_unique page fields =
    Then-unique _ _ (Check-unique _ _) (Then-unique _ _ (Check-unique _ _) (Then-unique _ _ (Check-unique _ _)
    (Then-unique _ _ (Check-unique _ _) (Then-unique _ _ (Check-unique _ _) (Then-unique _ _ (Check-unique _ _)
    (Then-unique _ _ (Check-unique _ _) (Then-unique _ _ (Check-unique _ _) (Check-unique _ _))))))))

written_unique : (page : List ℕ) (n id : ℕ) (fields : Fields) → IsUnique (WrittenChecks page n id fields)
written_unique page n id fields =
    Then-unique _ _ (Check-unique _ _) (Where-unique _ _ (leaf_unique page fields))

-- a whole leaf breaks none of its checks
leaf_none : (page : List ℕ) (n id : ℕ) (fields : Fields) → IsWholeLeaf page n id fields
    → WrittenChecks page n id fields None
leaf_none page n id fields leaf = (leaf.stands, λ of. leaf.records)

abbrev plain : Rule → Option Rule → Rule
plain rule None = rule
plain rule (Some other) = other

pub one_verdict : (page : List ℕ) (n id : ℕ) (fields : Fields) (a b : Verdict) → LeafVerdict page n id fields a
    → LeafVerdict page n id fields b → a ≡ b
one_verdict page n id fields Other Other p q = refl
one_verdict page n id fields Other (Lost rule) p q = absurd (other_lost page n id fields rule p q)
one_verdict page n id fields Other Leaf p q = absurd (other_leaf page n id fields p q)
one_verdict page n id fields (Lost rule) Other p q = absurd (other_lost page n id fields rule q p)
one_verdict page n id fields (Lost rule) (Lost rule') p q =
    let same = written_unique page n id fields (Some rule) (Some rule') p.1 q.1 in
    ap (λ (found : Option Rule). Lost (plain rule found)) same
one_verdict page n id fields (Lost rule) Leaf p q =
    some_is_not_none rule (written_unique page n id fields (Some rule) None p.1 (leaf_none page n id fields q))
one_verdict page n id fields Leaf Other p q = absurd (other_leaf page n id fields q p)
one_verdict page n id fields Leaf (Lost rule) p q =
    some_is_not_none rule (written_unique page n id fields (Some rule) None q.1 (leaf_none page n id fields p))
one_verdict page n id fields Leaf Leaf p q = refl
