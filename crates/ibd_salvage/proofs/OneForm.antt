-- Words have one form at most.
use Rattle.std.proofs.Common.{◌≡◌, ℕ, List, [], ◌∷◌, Option, Some, None, refl, sym, ap, ◌∙◌, arith}
use Rattle.std.proofs.lemmas.Fmt.{decimal_injective}
use Rattle.salvage_model.specs.declared.kind.RecordKind.{RecordKind}
use Rattle.salvage_model.specs.declared.kind.RecordKind.TheVariants.{Live, Deleted, Freed}
use Rattle.command_line.proofs.WordLists.{first_letters}
use Rattle.ibd_salvage.specs.declared.forms.Form.{Form}
use Rattle.ibd_salvage.specs.Forms.{IsForm, AskFor, kind_word}

same_kind : (words : List (List ℕ)) (k l : RecordKind) (rest more : List (List ℕ)) → words ≡ kind_word k ∷ rest
    → words ≡ kind_word l ∷ more → k ≡ l
same_kind words Live Live rest more is same = refl
same_kind words Live Deleted rest more is same = absurd (omega (arith, first_letters words _ _ _ _ _ _ is same))
same_kind words Live Freed rest more is same = absurd (omega (arith, first_letters words _ _ _ _ _ _ is same))
same_kind words Deleted Live rest more is same = absurd (omega (arith, first_letters words _ _ _ _ _ _ is same))
same_kind words Deleted Deleted rest more is same = refl
same_kind words Deleted Freed rest more is same = absurd (omega (arith, first_letters words _ _ _ _ _ _ is same))
same_kind words Freed Live rest more is same = absurd (omega (arith, first_letters words _ _ _ _ _ _ is same))
same_kind words Freed Deleted rest more is same = absurd (omega (arith, first_letters words _ _ _ _ _ _ is same))
same_kind words Freed Freed rest more is same = refl

fourth_word : (words : List (List ℕ)) (a b x y c d m n : List ℕ) → words ≡ a ∷ x ∷ c ∷ m ∷ []
    → words ≡ b ∷ y ∷ d ∷ n ∷ [] → m ≡ n
fourth_word words a b x y c d m n is same =
    let e : a ∷ x ∷ c ∷ m ∷ [] ≡ b ∷ y ∷ d ∷ n ∷ [] = sym is ∙ same in cc

three_or_four : (words : List (List ℕ)) (a b x y c d n : List ℕ) → words ≡ a ∷ x ∷ c ∷ []
    → words ≡ b ∷ y ∷ d ∷ n ∷ [] → ⊥
three_or_four words a b x y c d n is same =
    let e : a ∷ x ∷ c ∷ [] ≡ b ∷ y ∷ d ∷ n ∷ [] = sym is ∙ same in cc

kind_of : (words : List (List ℕ)) (k l : RecordKind) (i j : Option ℕ) → AskFor words k i → AskFor words l j → k ≡ l
kind_of words k l None None p q = same_kind words k l _ _ p.2 q.2
kind_of words k l None (Some n) p q = absurd (three_or_four words _ _ _ _ _ _ _ p.2 q.3)
kind_of words k l (Some m) None p q = absurd (three_or_four words _ _ _ _ _ _ _ q.2 p.3)
kind_of words k l (Some m) (Some n) p q = same_kind words k l _ _ p.3 q.3

index_of : (words : List (List ℕ)) (k l : RecordKind) (i j : Option ℕ) → AskFor words k i → AskFor words l j → i ≡ j
index_of words k l None None p q = refl
index_of words k l None (Some n) p q = absurd (three_or_four words _ _ _ _ _ _ _ p.2 q.3)
index_of words k l (Some m) None p q = absurd (three_or_four words _ _ _ _ _ _ _ q.2 p.3)
index_of words k l (Some m) (Some n) p q =
    ap Some (decimal_injective m n (omega (arith, p.2)) (omega (arith, q.2))
    (fourth_word words _ _ _ _ _ _ _ _ p.3 q.3))

pub same_form : (words : List (List ℕ)) (f g : Form) → IsForm words f → IsForm words g → f ≡ g
same_form words f g p q =
    let k = kind_of words f.kind g.kind f.index g.index p q in
    let i = index_of words f.kind g.kind f.index g.index p q in
    ap (λ (kind : RecordKind). record { kind = kind; index = f.index }) k
    ∙ ap (λ (index : Option ℕ). record { kind = g.kind; index = index }) i
