-- The heap numbers are all from 2 on: as many different numbers as there are places for them.
use Rattle.std.proofs.Common.{◌≡◌, ℕ, ◌+◌, ◌<◌, ◌≤◌, false, List, [], ◌∷◌, ◌++◌, eqb, length, map, get_or, All, arith}
use Rattle.std.proofs.Common.{inl, inr, eqb-true}
use Rattle.std.specs.List.{Contains, AllByRecursion, IsDistinct, list_any}
use Rattle.std.proofs.lemmas.Bool.{cases_Bool, ne_eqb, or_parts}
use Rattle.std.proofs.lemmas.List.{length-map}
use Rattle.std.proofs.lemmas.List.Elements.{All-cons, All-contains, All-map, recursion_from_All}
use Rattle.std.proofs.lemmas.Map.Keys.{IsDistinct-cons, IsDistinct-from_apart}
use Rattle.std.proofs.lemmas.Map.Steps.{length-le_from_distinct_below}
use Rattle.std.proofs.lemmas.Map.Views.{Contains-from_any}
use Rattle.page_source.specs.Lists.{AreDistinct}
use Rattle.compact_record.specs.Header.{heap_number}
use Rattle.index_page.specs.Header.{heap_count}
use Rattle.index_page.specs.Laws.{HasAllNumbers}
use Rattle.std.proofs.lemmas.List.{length-append}

none_equal : (v : ℕ) (xs : List ℕ) → list_any (eqb v) xs ≡ false → AllByRecursion (λ y. eqb v y ≡ false) xs
none_equal v [] none = tt
none_equal v (x ∷ xs) none = let both = or_parts (eqb v x) (list_any (eqb v) xs) none in (
  both.0,
  none_equal v xs both.1,
)

less_than_all : (v least : ℕ) (xs : List ℕ) → v < least → All (λ x. least ≤ x) xs
    → AllByRecursion (λ y. eqb v y ≡ false) xs
less_than_all v least xs below all =
    recursion_from_All (λ y. eqb v y ≡ false) xs (λ k d in'.
    ne_eqb v (get_or xs k d) (λ e. omega (arith, all k d in', e)))

-- n - 2 different numbers from 2 on below n are all of them
all_between : (xs : List ℕ) (n v : ℕ) → length xs + 2 ≡ n → AreDistinct xs → All (λ x. 2 ≤ x) xs → All (λ x. x < n) xs
    → 2 ≤ v → v < n → Contains xs v
all_between xs n v counted distinct least most from below =
    elim (cases_Bool (list_any (eqb v) xs)) [
      | inl some ↦ Contains-from_any {eq = eqb} eqb-true v xs some
      | inr none ↦
          let apart : IsDistinct eqb xs = IsDistinct-from_apart eqb xs
          (λ i j d before in'. ne_eqb (get_or xs i d) (get_or xs j d) (distinct i j d before in')) in
          let with-v : IsDistinct eqb (v ∷ xs) = IsDistinct-cons eqb v xs (none_equal v xs none) apart in
          let from-two : All (λ x. 2 ≤ x) (v ∷ xs) = All-cons (λ x. 2 ≤ x) v xs from least in
          let from-one : All (λ x. 1 ≤ x) (1 ∷ v ∷ xs) =
          All-cons (λ x. 1 ≤ x) 1 (v ∷ xs) (omega arith) (λ k d in'. omega (arith, from-two k d in')) in
          let with-one : IsDistinct eqb (1 ∷ v ∷ xs) =
          IsDistinct-cons eqb 1 (v ∷ xs) (less_than_all 1 2 (v ∷ xs) (omega arith) from-two) with-v in
          let all : IsDistinct eqb (0 ∷ 1 ∷ v ∷ xs) = IsDistinct-cons eqb 0 (1 ∷ v ∷ xs)
          (less_than_all 0 1 (1 ∷ v ∷ xs) (omega arith) from-one) with-one in
          let P : ℕ → Type 0 = λ x. x < n in
          let low : All P (0 ∷ 1 ∷ v ∷ xs) = All-cons P 0 (1 ∷ v ∷ xs) (omega arith)
          (All-cons P 1 (v ∷ xs) (omega arith) (All-cons P v xs below most)) in
          let few = length-le_from_distinct_below (0 ∷ 1 ∷ v ∷ xs) n all
          (λ q in'. All-contains P (0 ∷ 1 ∷ v ∷ xs) q low
          (Contains-from_any {eq = eqb} eqb-true q (0 ∷ 1 ∷ v ∷ xs) in')) in
          absurd (omega (arith, few, counted))
    ]

pub has_all_numbers : HasAllNumbers
has_all_numbers page chain free v is-free numbers from below =
    let num = heap_number page in
    let records = chain ++ free in
    let counted : length (map num records) + 2 ≡ heap_count page =
    omega (arith, length-map records num, length-append chain free, is-free.all) in
    all_between (map num records) (heap_count page) v counted numbers.distinct
    (All-map (λ x. 2 ≤ x) num records (λ k d in'. (numbers.within k d in').0))
    (All-map (λ x. x < heap_count page) num records (λ k d in'. (numbers.within k d in').1)) from below
