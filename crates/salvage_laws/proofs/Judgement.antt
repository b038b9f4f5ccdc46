-- The columns of a row have one list of verdicts at the most.
use Rattle.std.proofs.Common.{◌≡◌, ℕ, Bool, List, Option, Some, None, refl, sym, ap, ◌∙◌}
use Rattle.page_source.proofs.Unique.{IsUnique, Check-unique, Then-unique, Where-unique, EachOf-unique}
use Rattle.page_source.proofs.Unique.{some_is_not_none}
use Rattle.space_audit.specs.Marks.{seen}
use Rattle.offpage_chain.specs.declared.reference.Reference.{Reference}
use Rattle.sql_dump.specs.Cells.{CellView, RowOnLeaf, cell_of_column, pages_of_cell}
use Rattle.salvage_model.specs.declared.loss.Loss.{Loss}
use Rattle.salvage_model.specs.ColumnChecks.{Lost, PartCheck, PartsChecksBy, CellChecks}
use Rattle.salvage_model.specs.Judged.{Judged, lost_by, IsJudged, AreJudged, looked_in}
use Rattle.salvage_laws.proofs.Follows.{follow_unique}

part_unique : (file : List ℕ) (missed : ℕ → Bool) (space leaf : ℕ) (reference : Reference) (taken : ℕ → Bool)
    (before : List ℕ) (n : ℕ) → IsUnique (PartCheck file missed space leaf reference taken before n)
part_unique file missed space leaf reference taken before n =
    Then-unique _ _ (Check-unique _ _) (Then-unique _ _ (Check-unique _ _) (Then-unique _ _ (Check-unique _ _)
    (Then-unique _ _ (Check-unique _ _) (Check-unique _ _))))

parts_unique : (file : List ℕ) (missed : ℕ → Bool) (space leaf : ℕ) (reference : Reference) (taken : ℕ → Bool)
    (IsText : List ℕ → Type 0) → IsUnique (PartsChecksBy file missed space leaf reference taken IsText)
unfolding PartsChecksBy
parts_unique file missed space leaf reference taken IsText =
    Then-unique _ _ (Check-unique _ _) (Then-unique _ _ (Check-unique _ _) (Then-unique _ _
    (EachOf-unique _ _ (λ before n. part_unique file missed space leaf reference taken before n)) (Check-unique _ _)))

pub cell_unique : (file : List ℕ) (missed : ℕ → Bool) (leaf : ℕ) (cell : CellView) (taken : ℕ → Bool)
    → IsUnique (CellChecks file missed leaf cell taken)
cell_unique file missed leaf cell taken =
    Then-unique _ _ (Check-unique _ _) (Where-unique _ _ (parts_unique _ _ _ _ _ _ _))

-- an answer tells the loss and the pages
same_lost : (loss : Loss) (looked : List ℕ) (loss' : Loss) (looked' : List ℕ)
    → lost_by (Some loss) looked ≡ lost_by (Some loss') looked' → (loss ≡ loss') × (looked ≡ looked')
same_lost loss looked loss' looked' e =
    let plain : Option Lost → Lost =
    λ (o : Option Lost). elim o [ None ↦ record { loss = loss; looked = looked } | Some l ↦ l ] in
    (ap (λ (o : Option Lost). (plain o).loss) e, ap (λ (o : Option Lost). (plain o).looked) e)

-- two verdicts with one answer are the same, where a whole value has these pages
by_cases : (pages : List ℕ) (loss : Option Loss) (looked : List ℕ) (loss' : Option Loss) (looked' : List ℕ)
    → lost_by loss looked ≡ lost_by loss' looked' → (loss ≡ None → looked ≡ pages) → (loss' ≡ None → looked' ≡ pages)
    → (loss ≡ loss') × (looked ≡ looked')
by_cases pages None looked None looked' e p q = (refl, p refl ∙ sym (q refl))
by_cases pages None looked (Some loss') looked' e p q =
    some_is_not_none (record { loss = loss'; looked = looked' }) (sym e)
by_cases pages (Some loss) looked None looked' e p q = some_is_not_none (record { loss = loss; looked = looked }) e
by_cases pages (Some loss) looked (Some loss') looked' e p q =
    let same = same_lost loss looked loss' looked' e in
    (ap (λ (l : Loss). Some l) same.0, same.1)

pub judged_unique : (file : List ℕ) (missed : ℕ → Bool) (leaf : ℕ) (cell : CellView) (taken : ℕ → Bool) (a b : Judged)
    → IsJudged file missed leaf cell taken a → IsJudged file missed leaf cell taken b → a ≡ b
judged_unique file missed leaf cell taken a b p q =
    let same = by_cases (pages_of_cell file cell) a.loss a.looked b.loss b.looked
    (cell_unique file missed leaf cell taken _ _ p.checks q.checks) p.whole q.whole in
    ap (λ (l : Option Loss). record { loss = l; looked = a.looked }) same.0
    ∙ ap (λ (looked : List ℕ). record { loss = b.loss; looked = looked }) same.1

pub one_judgement : (file : List ℕ) (missed : ℕ → Bool) (row : RowOnLeaf) (taken : ℕ → Bool) (a b : List Judged)
    → AreJudged file missed row taken a → AreJudged file missed row taken b → a ≡ b
one_judgement file missed row taken a b p q =
    follow_unique
    (λ before c judged. IsJudged file missed row.leaf (cell_of_column row.row c) (seen taken (looked_in before)) judged)
    (λ before c x y. judged_unique file missed row.leaf (cell_of_column row.row c) (seen taken (looked_in before)) x y)
    a b (p.all ∙ sym q.all) p.each q.each
