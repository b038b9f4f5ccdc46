-- a way along the records of a page by next fields
use Rattle.std.proofs.Common.{◌≡◌, ◌≢◌, ◌==◌, ◌⊎◌, ℕ, zero, suc, ◌<◌, ◌≤◌, List, [], ◌∷◌, length, get_or, true, false}
use Rattle.std.proofs.Common.{cond, refl, sym, ◌∙◌, arith, inl, inr}
use Rattle.std.proofs.lemmas.Bool.{cases_lt, cases_eq, ne_eqb, eq-eqb, false≢true}
use Rattle.compact_record.specs.Header.{next_origin}
use Rattle.index_page.specs.Header.{infimum, supremum, record_count, records_of}
use Rattle.index_page.specs.Page.{IsChain}
use Rattle.space_audit.specs.Marks.{is_in}
use Rattle.tree_walk.specs.Leaf.{IsAlong}
use Rattle.tree_walk.proofs.Records.{length-records, passed_more, chain_end}

-- a member of a list by its place
in_place : (xs : List ℕ) (n : ℕ) → is_in xs n ≡ true → (k : ℕ) × ((k < length xs) × (n ≡ get_or xs k 0))
in_place [] n e = absurd (false≢true e)
in_place (x ∷ xs) n e =
    elim (cases_eq x n) [
      | inl q ↦ (0, (omega arith, sym q))
      | inr q ↦ let r = in_place xs n (rw (ne_eqb x n q) at e) in (suc r.0, (let h = r.1.0 in omega arith, r.1.1))
    ]

place_in : (xs : List ℕ) (k : ℕ) → k < length xs → is_in xs (get_or xs k 0) ≡ true
place_in [] k h = absurd (omega arith)
place_in (x ∷ xs) zero h = rw (eq-eqb x x refl) refl
place_in (x ∷ xs) (suc k) h =
    elim (x == get_or xs k 0) as (λ b. cond b true (is_in xs (get_or xs k 0)) ≡ true)
    [ true ↦ refl | false ↦ place_in xs k (omega arith) ]

-- from a record on the way, or the infimum, the way goes on to a record or to the supremum
next_along : (page : List ℕ) (at : ℕ) → IsChain page (records_of page) → is_in (infimum ∷ records_of page) at ≡ true
    → ((is_in (infimum ∷ records_of page) (next_origin page at) ≡ true) × (125 ≤ next_origin page at)) ⊎
    (next_origin page at ≡ supremum)
next_along page at c e =
    let n = length-records page in
    let (k, (h, p)) = in_place (infimum ∷ records_of page) at e in
    elim (cases_lt k (record_count page)) [
      | inl l ↦
          let q = passed_more page k at l p in
          let o = (c.origins k 0 (omega arith)).0 in
          inl (rw q (place_in (infimum ∷ records_of page) (suc k) (omega arith)), rw q o)
      | inr l ↦ inr (chain_end page k at c (omega arith) p)
    ]

pub along_first : (page : List ℕ) → IsAlong page 99
along_first page c = refl

pub along_more : (page : List ℕ) (at next : ℕ) → IsAlong page at → next ≡ next_origin page at → 125 ≤ next → IsAlong
    page next
along_more page at next a e h c =
    elim (next_along page at c (a c)) [
      | inl i ↦ rw e i.0
      | inr s ↦ absurd (omega arith)
    ]

-- where it goes on to neither, the chain isn't whole
pub along_broken : (page : List ℕ) (at next : ℕ) → IsAlong page at → next ≡ next_origin page at → next < 125 → next
    ≢ 112 → ¬ (IsChain page (records_of page))
along_broken page at next a e h ne c =
    elim (next_along page at c (a c)) [
      | inl i ↦ let l = i.1 in absurd (omega arith)
      | inr s ↦ ne (e ∙ s)
    ]
