-- The forms of words: which they have, and that they have one at most.
use Rattle.std.proofs.Common.{◌≡◌, ℕ, List, [], ◌∷◌, length, slice_get, Some, refl, sym, ap, ◌∙◌, arith}
use Rattle.std.proofs.lemmas.Fmt.{decimal_injective}
use Rattle.command_line.proofs.WordLists.{first_letters}
use Rattle.ibd_carve.specs.declared.forms.Form.{Form}
use Rattle.ibd_carve.specs.declared.forms.Form.TheVariants.{ListImage, TakeSpace}
use Rattle.ibd_carve.specs.Forms.{IsForm}

pub name_and_word : (words : List (List ℕ)) (name : List ℕ) → length words ≡ 2 → slice_get words 0 ≡ Some name
    → (word : List ℕ) × (words ≡ name ∷ word ∷ [])
name_and_word [] name size first = absurd (omega arith)
name_and_word (x ∷ []) name size first = absurd (omega arith)
name_and_word (x ∷ y ∷ []) name size first = (y, (let e : x ≡ name = cc in rw e refl))
name_and_word (x ∷ y ∷ z ∷ rest) name size first = absurd (omega arith)

pub name_and_three : (words : List (List ℕ)) (name a b c : List ℕ) → length words ≡ 4 → slice_get words 0 ≡ Some name
    → slice_get words 1 ≡ Some a → slice_get words 2 ≡ Some b → slice_get words 3 ≡ Some c
    → words ≡ name ∷ a ∷ b ∷ c ∷ []
name_and_three [] name a b c size first second third fourth = absurd (omega arith)
name_and_three (x ∷ []) name a b c size first second third fourth = absurd (omega arith)
name_and_three (x ∷ y ∷ []) name a b c size first second third fourth = absurd (omega arith)
name_and_three (x ∷ y ∷ z ∷ []) name a b c size first second third fourth = absurd (omega arith)
name_and_three (x ∷ y ∷ z ∷ w ∷ []) name a b c size first second third fourth =
    let e : x ≡ name = cc in
    let f : y ≡ a = cc in
    let g : z ≡ b = cc in
    let h : w ≡ c = cc in
    rw (e, f, g, h) refl
name_and_three (x ∷ y ∷ z ∷ w ∷ v ∷ rest) name a b c size first second third fourth = absurd (omega arith)

second_words : (words : List (List ℕ)) (a b x y : List ℕ) (rest more : List (List ℕ)) → words ≡ a ∷ x ∷ rest
    → words ≡ b ∷ y ∷ more → x ≡ y
second_words words a b x y rest more is same = let e : a ∷ x ∷ rest ≡ b ∷ y ∷ more = sym is ∙ same in cc

-- words have one form at most
pub same_form : (words : List (List ℕ)) (one other : Form) → IsForm words one → IsForm words other → one ≡ other
same_form words ListImage ListImage is same = refl
same_form words ListImage (TakeSpace space) is same =
    absurd (omega (arith, first_letters words _ _ _ _ _ _ is.1 same.words_are))
same_form words (TakeSpace space) ListImage is same =
    absurd (omega (arith, first_letters words _ _ _ _ _ _ is.words_are same.1))
same_form words (TakeSpace space) (TakeSpace other) is same =
    let spelled = second_words words _ _ _ _ _ _ is.words_are same.words_are in
    ap TakeSpace (decimal_injective space other (omega (arith, is.is_space.below)) (omega (arith, same.is_space.below))
    (sym is.is_space.spelled ∙ spelled ∙ same.is_space.spelled))
