-- A list of known length, word by word.
use Rattle.std.proofs.Common.{◌≡◌, ℕ, List, [], ◌∷◌, length, slice_get, Some, refl, sym, ◌∙◌, arith}

pub two_words : (words : List (List ℕ)) (name last : List ℕ) → length words ≡ 2 → slice_get words 0 ≡ Some name
    → slice_get words 1 ≡ Some last → words ≡ name ∷ last ∷ []
two_words [] name last size first second = absurd (omega arith)
two_words (x ∷ []) name last size first second = absurd (omega arith)
two_words (x ∷ y ∷ []) name last size first second = let e : x ≡ name = cc in let f : y ≡ last = cc in rw (e, f) refl
two_words (x ∷ y ∷ z ∷ rest) name last size first second = absurd (omega arith)

pub three_words : (words : List (List ℕ)) (name : List ℕ) → length words ≡ 3 → slice_get words 0 ≡ Some name
    → (a : List ℕ) × (b : List ℕ) × (words ≡ name ∷ a ∷ b ∷ [])
three_words [] name size first = absurd (omega arith)
three_words (x ∷ []) name size first = absurd (omega arith)
three_words (x ∷ a ∷ []) name size first = absurd (omega arith)
three_words (x ∷ a ∷ b ∷ []) name size first = (a, b, (let e : x ≡ name = cc in rw e refl))
three_words (x ∷ a ∷ b ∷ c ∷ rest) name size first = absurd (omega arith)

pub four_words : (words : List (List ℕ)) (name : List ℕ) → length words ≡ 4 → slice_get words 0 ≡ Some name
    → (a : List ℕ) × (b : List ℕ) × (c : List ℕ) × (words ≡ name ∷ a ∷ b ∷ c ∷ [])
four_words [] name size first = absurd (omega arith)
four_words (x ∷ []) name size first = absurd (omega arith)
four_words (x ∷ a ∷ []) name size first = absurd (omega arith)
four_words (x ∷ a ∷ b ∷ []) name size first = absurd (omega arith)
four_words (x ∷ a ∷ b ∷ c ∷ []) name size first = (a, b, c, (let e : x ≡ name = cc in rw e refl))
four_words (x ∷ a ∷ b ∷ c ∷ d ∷ rest) name size first = absurd (omega arith)

-- the same words begin with the same letter
pub first_letters : (words : List (List ℕ)) (a b : ℕ) (xs ys : List ℕ) (rest more : List (List ℕ))
    → words ≡ (a ∷ xs) ∷ rest → words ≡ (b ∷ ys) ∷ more → a ≡ b
first_letters words a b xs ys rest more is same =
    let e : (a ∷ xs) ∷ rest ≡ (b ∷ ys) ∷ more = sym is ∙ same in cc
