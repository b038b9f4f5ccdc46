-- Outcomes that follow one another.
use Rattle.std.proofs.Common.{◌≡◌, ℕ, suc, List, [], ◌∷◌, length, refl, sym, ap, ◌∙◌, subst, arith}
use Rattle.std.proofs.Common.{zero, ◌++◌, ◌≤◌, ◌<◌, take, inl, inr, length-append, get_or}
use Rattle.std.proofs.lemmas.Bool.{cases_lt}
use Rattle.std.proofs.lemmas.List.{take-append-le, take_all, get_or_append_left, get_or_at}
use Rattle.salvage_model.specs.Follow.{Follow}

-- behind a first outcome
abbrev pub Behind : {X : Type 0} → X → (List X → ℕ → X → Type 0) → List X → ℕ → X → Type 0
Behind x Fits before k y = Fits (x ∷ before) (suc k) y

pub follow_rest : {X : Type 0} (Fits : List X → ℕ → X → Type 0) (x : X) (xs : List X) → Follow Fits (x ∷ xs)
    → Follow (Behind x Fits) xs
follow_rest Fits x xs h k d below = h (suc k) d (omega (arith, below))

pub follow_first : {X : Type 0} (Fits : List X → ℕ → X → Type 0) (x : X) (xs : List X) → Follow Fits (x ∷ xs)
    → Fits [] 0 x
follow_first Fits x xs h = h 0 x (omega arith)

-- where one outcome at the most fits a place behind those before it, two lists of one length are the same
pub follow_unique : {X : Type 0} (Fits : List X → ℕ → X → Type 0)
    → ((before : List X) (k : ℕ) (a b : X) → Fits before k a → Fits before k b → a ≡ b)
    → (xs ys : List X) → length xs ≡ length ys → Follow Fits xs → Follow Fits ys → xs ≡ ys
follow_unique Fits one [] [] size p q = refl
follow_unique Fits one [] (y ∷ ys) size p q = absurd (omega (arith, size))
follow_unique Fits one (x ∷ xs) [] size p q = absurd (omega (arith, size))
follow_unique {X = X} Fits one (x ∷ xs) (y ∷ ys) size p q =
    let same : x ≡ y = one [] 0 x y (follow_first Fits x xs p) (follow_first Fits y ys q) in
    let behind : Follow (Behind x Fits) ys =
    subst (λ (v : X). Follow (Behind v Fits) ys) (sym same) (follow_rest Fits y ys q) in
    let rest : xs ≡ ys = follow_unique (Behind x Fits) (λ before k a b. one (x ∷ before) (suc k) a b) xs ys
    (omega (arith, size)) (follow_rest Fits x xs p) behind in
    ap (λ (v : X). v ∷ xs) same ∙ ap (λ (vs : List X). y ∷ vs) rest

-- one outcome more
pub follow_push : {X : Type 0} (Fits : List X → ℕ → X → Type 0) (xs : List X) (x : X) → Follow Fits xs
    → Fits xs (length xs) x → Follow Fits (xs ++ x ∷ [])
follow_push {X = X} Fits xs x before here k d below = elim (cases_lt k (length xs)) [
  | inl less ↦
      subst (λ (front : List X). Fits front k (get_or (xs ++ x ∷ []) k d))
      (sym (take-append-le k xs (x ∷ []) (omega (arith, less))))
      (subst (λ (y : X). Fits (take k xs) k y) (sym (get_or_append_left xs (x ∷ []) d k less)) (before k d less))
  | inr more ↦
      let e : length xs ≡ k = omega (arith, more, below, length-append xs (x ∷ [])) in
      let front : xs ≡ take k (xs ++ x ∷ []) =
      sym (take-append-le k xs (x ∷ []) (omega (arith, e)) ∙ take_all k xs (omega (arith, e))) in
      subst (λ (before : List X). Fits before k (get_or (xs ++ x ∷ []) k d)) front
      (subst (λ (y : X). Fits xs k y) (sym (get_or_at xs x [] d k e)) (subst (λ (n : ℕ). Fits xs n x) e here))
]

-- so many outcomes
pub record Built {X : Type 0} (Fits : List X → ℕ → X → Type 0) (n : ℕ) : Type 0 where
  pub items : List X
  pub size : length items ≡ n
  pub follow : Follow Fits items

-- there are as many as can be put behind one another
pub follow_build : {X : Type 0} (Fits : List X → ℕ → X → Type 0) (count : ℕ)
    → ((before : List X) → length before < count → Follow Fits before → (x : X) × Fits before (length before) x)
    → (n : ℕ) → n ≤ count → Built Fits n
follow_build Fits count step zero within =
    record { items = []; size = refl; follow = λ k d below. absurd (omega (arith, below)) }
follow_build Fits count step (suc n) within =
    let before = follow_build Fits count step n (omega (arith, within)) in
    let next = step before.items (omega (arith, before.size, within)) before.follow in
    record {
      items = before.items ++ next.0 ∷ [];
      size = omega (arith, length-append before.items (next.0 ∷ []), before.size);
      follow = follow_push Fits before.items next.0 before.follow next.1;
    }
