-- A list of zeros.
use Rattle.std.proofs.Common.{◌≡◌, ◌↔◌, ℕ, List, [], ◌∷◌, length, replicate, All, refl, sym, ap, ◌∙◌, subst}
use Rattle.std.proofs.lemmas.List.Elements.{All-head, All-tail, All-replicate}

all_zeros : (bytes : List ℕ) → All (λ (b : ℕ). b ≡ 0) bytes → bytes ≡ replicate (length bytes) 0
all_zeros [] h = refl
all_zeros (b ∷ bs) h =
    ap (λ (n : ℕ). n ∷ bs) (All-head (λ (n : ℕ). n ≡ 0) b bs h)
    ∙ ap (λ (xs : List ℕ). 0 ∷ xs) (all_zeros bs (All-tail (λ (n : ℕ). n ≡ 0) b bs h))

zeros_all : (n : ℕ) → All (λ (b : ℕ). b ≡ 0) (replicate n 0)
zeros_all n = All-replicate (λ (b : ℕ). b ≡ 0) n 0 refl

-- a page is zeros where each byte is one
pub is_zero_page : (page : List ℕ) → length page ≡ 16384 → All (λ (b : ℕ). b ≡ 0) page ↔ (page ≡ replicate 16384 0)
is_zero_page page size = (
  λ all. all_zeros page all ∙ ap (λ (n : ℕ). replicate n 0) size,
  λ same. subst (λ (xs : List ℕ). All (λ (b : ℕ). b ≡ 0) xs) (sym same) (zeros_all 16384),
)
