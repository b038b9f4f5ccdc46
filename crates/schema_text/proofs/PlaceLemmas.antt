-- What holds of the words of a line from a place on.
use Rattle.std.proofs.Common.{◌≡◌, ◌≢◌, ℕ, ◌+◌, ◌-◌, ◌<◌, ◌≤◌, List, [], length, drop, get_or, All, sym, ap, ◌∙◌, subst}
use Rattle.std.proofs.Common.{arith}
use Rattle.std.proofs.Common.{inl, inr}
use Rattle.std.proofs.lemmas.Bool.{cases_lt}
use Rattle.std.specs.Prelude.{AllPairs}
use Rattle.std.specs.List.{AllWithin}
use Rattle.std.proofs.lemmas.List.{get_or-drop, get_or_default, length-drop}

pub all_from : (P : List ℕ → Type 0) (xs : List (List ℕ)) (from n : ℕ) → AllWithin P xs from n → length xs ≤ n
    → All P (drop from xs)
all_from P xs from n h size = λ k d below.
    let within = length-drop from xs in
    subst P (sym (get_or-drop from xs k d)) (h (from + k) d (omega arith) (omega arith))

pub not_all_from : (P : List ℕ → Type 0) (xs : List (List ℕ)) (from i : ℕ) → from ≤ i → i < length xs
    → (P (get_or xs i []) → ⊥) → All P (drop from xs) → ⊥
not_all_from P xs from i low high bad all =
    let place : from + (i - from) ≡ i = omega arith in
    let at : get_or (drop from xs) (i - from) [] ≡ get_or xs i [] = get_or-drop from xs (i - from) []
    ∙ ap (λ k. get_or xs k []) place in
    bad (subst P at (all (i - from) [] (omega (arith, length-drop from xs))))

pub within_more : (P : List ℕ → Type 0) (xs : List (List ℕ)) (from i : ℕ) → i < length xs → AllWithin P xs from i
    → P (get_or xs i []) → AllWithin P xs from (i + 1)
within_more P xs from i high h here = λ k d low below.
    elim (cases_lt k i) [
      | inl before ↦ h k d low before
      | inr at ↦ let same : k ≡ i = omega arith in subst P (sym (ap (λ j. get_or xs j d) same
          ∙ get_or_default xs i d [] high)) here
    ]

abbrev pub DifferFrom : List (List ℕ) → ℕ → ℕ → Type 0
DifferFrom xs from n = (j k : ℕ) → from ≤ j → j < k → k < n → get_or xs j [] ≡ get_or xs k [] → ⊥

pub pairs_from : (xs : List (List ℕ)) (from n : ℕ) → DifferFrom xs from n → length xs ≤ n
    → AllPairs (λ (a b : List ℕ). a ≢ b) (drop from xs)
pairs_from xs from n h size = λ i j d before within e.
    let long = length-drop from xs in
    let a = get_or-drop from xs i d ∙ get_or_default xs (from + i) d [] (omega arith) in
    let b = get_or-drop from xs j d ∙ get_or_default xs (from + j) d [] (omega arith) in
    h (from + i) (from + j) (omega arith) (omega arith) (omega arith) (sym a ∙ e ∙ b)

pub not_pairs_from : (xs : List (List ℕ)) (from j k : ℕ) → from ≤ j → j < k → k < length xs
    → get_or xs j [] ≡ get_or xs k [] → AllPairs (λ (a b : List ℕ). a ≢ b) (drop from xs) → ⊥
not_pairs_from xs from j k low before high same pairs =
    let long = length-drop from xs in
    let a : get_or (drop from xs) (j - from) [] ≡ get_or xs j [] = get_or-drop from xs (j - from) []
    ∙ ap (λ i. get_or xs i []) (let e : from + (j - from) ≡ j = omega arith in e) in
    let b : get_or (drop from xs) (k - from) [] ≡ get_or xs k [] = get_or-drop from xs (k - from) []
    ∙ ap (λ i. get_or xs i []) (let e : from + (k - from) ≡ k = omega arith in e) in
    pairs (j - from) (k - from) [] (omega arith) (omega arith) (a ∙ same ∙ sym b)
