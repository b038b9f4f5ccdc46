-- The last record, by the directory.
use Rattle.std.proofs.Common.{◌≡◌, ℕ, zero, suc, ◌+◌, ◌-◌, ◌<◌, ◌≤◌, List, [], ◌∷◌, ◌++◌, length, get_or, refl}
use Rattle.std.proofs.Common.{sym, ap, ◌∙◌, subst, arith, inl, inr, length-append}
use Rattle.std.proofs.lemmas.Bool.{cases_lt}
use Rattle.std.proofs.lemmas.List.{get_or_append_left, get_or_at, get_or-append-add}
use Rattle.column_values.specs.Types.{Fields}
use Rattle.compact_record.specs.Header.{next_origin}
use Rattle.index_page.specs.Header.{infimum, supremum, records_of, record_count, slot_at, slot_count}
use Rattle.index_page.specs.Page.{Cuts}
use Rattle.tree_walk.specs.Records.{PageFacts, HasPassed}
use Rattle.tree_walk.proofs.Records.{length-records, record_at, passed_more, passed_behind, passed_origin, chain_end}

-- the origin of a slot, and at least one record behind it
record StandsBefore (records : List ℕ) (origin : ℕ) : Type 0 where
  pub k : ℕ
  pub before : k + 1 < length records
  pub is : get_or records k 0 ≡ origin

-- the last slot but one of a cut
before_last : (page : List ℕ) (slot m : ℕ) (records : List ℕ) → Cuts page slot (suc (suc m)) records
    → StandsBefore records (slot_at page (slot + m))
before_last page slot zero records (front, rest, is, group, (front', rest', is', group', none)) =
    let size = ap length is ∙ length-append front (slot_at page slot ∷ rest) in
    let more = ap length is' ∙ length-append front' (slot_at page (slot + 1) ∷ rest') in
    let e : slot ≡ slot + 0 = omega arith in
    record {
      k = length front;
      before = omega (arith, size, more);
      is = ap (λ (xs : List ℕ). get_or xs (length front) 0) is
          ∙ get_or_at front (slot_at page slot) rest 0 (length front) refl
          ∙ ap (slot_at page) e;
    }
before_last page slot (suc m) records (front, rest, is, group, cuts) =
    let s = before_last page (slot + 1) m rest cuts in
    let size = ap length is ∙ length-append front (slot_at page slot ∷ rest) in
    let e : slot + 1 + m ≡ slot + suc m = omega arith in
    record {
      k = length front + suc s.k;
      before = omega (arith, size, s.before);
      is = ap (λ (xs : List ℕ). get_or xs (length front + suc s.k) 0) is
          ∙ get_or-append-add front (slot_at page slot ∷ rest) (suc s.k) 0 ∙ s.is ∙ ap (slot_at page) e;
    }

-- a walk along the chain stands here, and has not come to the supremum
pub record IsPassed (page : List ℕ) (at : ℕ) : Type 0 where
  pub k : ℕ
  pub few : k ≤ record_count page
  pub passed : HasPassed page k at

module _ (page : List ℕ) (fields : Fields) (facts : PageFacts page fields) where
  -- the chain with its ends
  abbrev whole : List ℕ
  whole = infimum ∷ records_of page ++ supremum ∷ []

  pub owner_passed : (at : ℕ) → at ≡ slot_at page (slot_count page - 2) → IsPassed page at
  owner_passed at e =
      let n = slot_count page - 2 in
      let count : slot_count page ≡ suc (suc n) = omega (arith, facts.header.slots) in
      let s = before_last page 0 n whole (subst (λ (m : ℕ). Cuts page 0 m whole) count facts.directory.cut) in
      let size : length whole ≡ record_count page + 2 =
      omega (arith, length-append (records_of page) (supremum ∷ []), length-records page) in
      let few : s.k ≤ record_count page = omega (arith, size, s.before) in
      let inside : s.k < length (infimum ∷ records_of page) = omega (arith, few, length-records page) in
      let z : 0 + n ≡ n = omega arith in
      record {
        k = s.k;
        few = few;
        passed = e ∙ sym (ap (slot_at page) z) ∙ sym s.is
            ∙ get_or_append_left (infimum ∷ records_of page) (supremum ∷ []) 0 s.k inside;
      }

  pub passed_header : (at : ℕ) → IsPassed page at → (5 ≤ at) × (at ≤ 16384)
  passed_header at p = passed_origin page fields p.k at facts (omega (arith, p.few)) p.passed

  pub next_passed : (at next : ℕ) → IsPassed page at → next ≡ next_origin page at → ¬ (next ≡ 112)
      → IsPassed page next
  next_passed at next p e other =
      elim (cases_lt p.k (record_count page)) [
        | inl l ↦ record {
          k = p.k + 1;
          few = omega arith;
          passed = passed_behind page p.k next (e ∙ passed_more page p.k at l p.passed);
        }
        | inr m ↦ absurd (other (e ∙ chain_end page p.k at facts.is_chain (omega (arith, p.few, m)) p.passed))
      ]

  pub all_passed : (at next : ℕ) → IsPassed page at → next ≡ next_origin page at → next ≡ 112
      → HasPassed page (record_count page) at
  all_passed at next p e last =
      elim (cases_lt p.k (record_count page)) [
        | inl l ↦
            let r = record_at page fields p.k facts l in
            absurd (omega (arith, r.least, passed_more page p.k at l p.passed, e, last))
        | inr m ↦
            let same : p.k ≡ record_count page = omega (arith, p.few, m) in
            subst (λ (k : ℕ). HasPassed page k at) same p.passed
      ]

  pub last_is : (count last : ℕ) → 0 < count → count ≡ record_count page → HasPassed page (record_count page) last
      → last ≡ get_or (records_of page) (count - 1) 0
  last_is count last some e passed =
      let more : record_count page ≡ suc (count - 1) = omega (arith, some, e) in
      subst (λ (k : ℕ). HasPassed page k last) more passed
