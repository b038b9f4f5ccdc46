-- Lists of words of which some are known.
use Rattle.std.proofs.Common.{◌≡◌, ℕ, ◌≤◌, false, List, [], ◌∷◌, length, slice_get, Option, Some, None, is_some}
use Rattle.std.proofs.Common.{MatchOption}
use Rattle.std.proofs.Common.{refl, arith}
use Rattle.std.proofs.lemmas.Bool.{false≢true}

pub three_of : (words : List (List ℕ)) (name third : List ℕ) → slice_get words 0 ≡ Some name
    → slice_get words 2 ≡ Some third → length words ≤ 3
    → (a : List ℕ) × (b : List ℕ) × (words ≡ name ∷ a ∷ b ∷ [])
three_of [] name third first last few = absurd (cc)
three_of (x ∷ []) name third first last few = absurd (cc)
three_of (x ∷ a ∷ []) name third first last few = absurd (cc)
three_of (x ∷ a ∷ b ∷ []) name third first last few = (a, b, (let e : x ≡ name = cc in rw e refl))
three_of (x ∷ a ∷ b ∷ c ∷ rest) name third first last few = absurd (omega (arith, few))

pub four_of : (words : List (List ℕ)) (name fourth : List ℕ) → slice_get words 0 ≡ Some name
    → slice_get words 3 ≡ Some fourth → length words ≤ 4
    → (a : List ℕ) × (b : List ℕ) × (words ≡ name ∷ a ∷ b ∷ fourth ∷ [])
four_of [] name fourth first last few = absurd (cc)
four_of (x ∷ []) name fourth first last few = absurd (cc)
four_of (x ∷ a ∷ []) name fourth first last few = absurd (cc)
four_of (x ∷ a ∷ b ∷ []) name fourth first last few = absurd (cc)
four_of (x ∷ a ∷ b ∷ c ∷ []) name fourth first last few =
    let e : x ≡ name = cc in let f : c ≡ fourth = cc in (a, b, rw (e, f) refl)
four_of (x ∷ a ∷ b ∷ c ∷ d ∷ rest) name fourth first last few = absurd (omega (arith, few))

-- what is said of no word, where there is none
pub when_none : {X P : Type 0} (Q : X → Type 0) (word : Option X) → false ≡ is_some word → MatchOption word P Q → P
when_none Q None none told = told
when_none Q (Some x) none told = absurd (false≢true none)
