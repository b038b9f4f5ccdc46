-- facts on the records of a page
use Rattle.std.proofs.Common.{◌≡◌, ◌==◌, ℕ, zero, suc, ◌+◌, ◌-◌, ◌<◌, ◌≤◌, Bool, true, false, List, [], ◌∷◌, ◌++◌}
use Rattle.std.proofs.Common.{length, get_or, refl, inl, inr, sym, ap, ◌∙◌, arith, None, add-one}
use Rattle.std.proofs.lemmas.Bool.{cases_lt, true≢false, ne_eqb}
use Rattle.std.proofs.lemmas.List.{length-append, get_or_append_left}
use Rattle.compact_record.specs.Reading.{IsSpelled}
use Rattle.column_values.specs.Types.{Fields}
use Rattle.compact_record.specs.Header.{next_origin}
use Rattle.index_page.specs.Header.{infimum, supremum, record_count, records_from, records_of, free_of}
use Rattle.std.specs.List.{All}
use Rattle.index_page.specs.Page.{Leads, IsChain, HasRoom}
use Rattle.index_page.specs.PageChecks.{PageChecks}
use Rattle.tree_walk.specs.Records.{IsRecord, PageFacts, HasPassed}

chain_first : (page : List ℕ) (f n : ℕ) → 0 < n → get_or (records_from page f n) 0 0 ≡ f
unfolding records_from
chain_first page f zero h = absurd (omega arith)
chain_first page f (suc n) h = refl

pub first_record : (page : List ℕ) → 0 < record_count page → get_or (records_of page) 0 0 ≡ next_origin page 99
first_record page h = chain_first page (next_origin page 99) (record_count page) h

length-chain : (page : List ℕ) (f n : ℕ) → length (records_from page f n) ≡ n
unfolding records_from
length-chain page f zero = refl
length-chain page f (suc n) = ap suc (length-chain page (next_origin page f) n)

pub length-records : (page : List ℕ) → length (records_of page) ≡ record_count page
length-records page = length-chain page (next_origin page 99) (record_count page)

chain_more : (page : List ℕ) (f n k : ℕ) → suc k < n → get_or (records_from page f n) (suc k) 0 ≡ next_origin page
    (get_or (records_from page f n) k 0)
unfolding records_from
chain_more page f zero k h = absurd (omega arith)
chain_more page f (suc zero) k h = absurd (omega arith)
chain_more page f (suc (suc n)) zero h = refl
chain_more page f (suc (suc n)) (suc k) h = chain_more page (next_origin page f) (suc n) k (omega arith)

pub more_record : (page : List ℕ) (k : ℕ) → k + 1 < record_count page → get_or (records_of page) (k + 1) 0 ≡
    next_origin page (get_or (records_of page) k 0)
more_record page k h = rw add-one (chain_more page (next_origin page 99) (record_count page) k h')
  where
    h' : suc k < record_count page
    h' = omega arith

pub all_left : {X : Type 0} (P : X → Type 0) (xs ys : List X) → All P (xs ++ ys) → All P xs
all_left P xs ys a k d h = rw (← get_or_append_left xs ys d k h) (a k d (let e = length-append xs ys in omega arith))

-- where the checks of a page hold its records can be read
module _ (page : List ℕ) (fields : Fields) (leaf root leftmost : Bool)
    (c : PageChecks page fields leaf root leftmost None) where
  the_chain : IsChain page (records_of page)
  unfolding PageChecks
  the_chain = c.1.1.0

  the_records : All (IsRecord page fields) (records_of page)
  unfolding PageChecks
  the_records k d h =
      let spelled = c.1.1.1.1.1.1.1.0 in
      let room = c.1.1.1.1.1.1.1.1.0.within in
      let o = the_chain.origins k d h in
      let s = all_left (λ origin. IsSpelled page origin fields) (records_of page) (free_of page) spelled k d h in
      let r = all_left (HasRoom page fields) (records_of page) (free_of page) room k d h in
      let t = c.0.top_most in
      let m = r.most in
      record { least = o.0; most = let p = o.1 in omega arith; spelled = s; ends = omega arith }

  pub page_facts : PageFacts page fields
  unfolding PageChecks
  page_facts = record { header = c.0; is_chain = the_chain; directory = c.1.1.1.1.1.0; records = the_records }

  pub some_record : root ≡ false → 0 < record_count page
  unfolding PageChecks
  some_record e =
      let n = length-records page in
      elim (cases_lt 0 (record_count page)) [
        | inl l ↦ l
        | inr l ↦ absurd (true≢false (sym (c.1.1.1.1.1.1.1.1.1.0 (omega arith)).1 ∙ e))
      ]

-- so has a root above the leaves
pub root_some : (page : List ℕ) (fields : Fields) (level : ℕ) → 0 < level → PageChecks page fields (level == 0) true
    true None → 0 < record_count page
unfolding PageChecks
root_some page fields level h c =
    let n = length-records page in
    elim (cases_lt 0 (record_count page)) [
      | inl l ↦ l
      | inr l ↦
          let e = (c.1.1.1.1.1.1.1.1.1.0 (omega arith)).0 in
          absurd (true≢false (sym e ∙ ne_eqb level 0 (λ q. omega arith)))
    ]

-- record k of such a page
pub record_at : (page : List ℕ) (fields : Fields) (k : ℕ) → PageFacts page fields → k < record_count page → IsRecord
    page fields (get_or (records_of page) k 0)
record_at page fields k f h = let e = length-records page in f.records k 0 (omega arith)

-- one record further along the chain
pub record_step : (page : List ℕ) (k at next : ℕ) → 1 ≤ k → k < record_count page → at ≡ get_or (records_of page)
    (k - 1) 0 → next ≡ next_origin page at
    → next ≡ get_or (records_of page) (k + 1 - 1) 0
record_step page k at next l h e n =
    let q : k + 1 - 1 ≡ k - 1 + 1 = omega arith in
    rw (q, more_record page (k - 1) (omega arith), ← e) n

-- the chain ends with the supremum
leads_end : (page chain : List ℕ) (start end k : ℕ) → Leads page start chain end → length chain ≡ k + 1 →
    next_origin page (get_or chain k 0) ≡ end
leads_end page [] start end k l e = absurd (omega arith)
leads_end page (x ∷ []) start end k l e = let q : k ≡ 0 = omega arith in rw q l.1
leads_end page (x ∷ y ∷ rest) start end zero l e = absurd (omega arith)
leads_end page (x ∷ y ∷ rest) start end (suc k) l e = leads_end page (y ∷ rest) x end k l.1 (omega arith)

-- a next field that leads on to a record: there is one more
pub next_after : (page : List ℕ) (fields : Fields) (k next : ℕ) → PageFacts page fields → k < record_count page →
    next ≡ next_origin page (get_or (records_of page) k 0) → 125 ≤ next
    → k + 1 < record_count page
next_after page fields k next f h e l =
    let n = length-records page in
    elim (cases_lt (k + 1) (record_count page)) [
      | inl m ↦ m
      | inr m ↦
          let q = leads_end page (records_of page) infimum supremum k f.is_chain.leads (omega arith) in
          absurd (omega arith)
    ]

leads_none : (page chain : List ℕ) (start end : ℕ) → Leads page start chain end → length chain ≡ 0 → next_origin
    page start ≡ end
leads_none page [] start end l e = l
leads_none page (x ∷ xs) start end l e = absurd (omega arith)

pub passed_more : (page : List ℕ) (k at : ℕ) → k < record_count page → HasPassed page k at → next_origin page at ≡
    get_or (records_of page) k 0
passed_more page zero at h p = rw p (sym (first_record page h))
passed_more page (suc k) at h p = rw p (sym (rw add-one at (more_record page k (omega arith))))

pub passed_origin : (page : List ℕ) (fields : Fields) (k at : ℕ) → PageFacts page fields → k < record_count page + 1
    → HasPassed page k at → (5 ≤ at) × (at ≤ 16384)
passed_origin page fields zero at f h p = (omega arith, omega arith)
passed_origin page fields (suc k) at f h p = let r = record_at page fields k f (omega arith) in let a = r.least in
    let b = r.most in (rw p (omega arith), rw p b)

pub passed_behind : (page : List ℕ) (k at : ℕ) → at ≡ get_or (records_of page) k 0 → HasPassed page (k + 1) at
passed_behind page k at e = rw add-one e

-- behind all records the way goes on to the supremum
pub chain_end : (page : List ℕ) (k at : ℕ) → IsChain page (records_of page) → k ≡ record_count page → HasPassed page
    k at → next_origin page at ≡ supremum
chain_end page zero at c e p = let n = length-records page in rw p
    (leads_none page (records_of page) infimum supremum c.leads (omega arith))
chain_end page (suc k) at c e p = let n = length-records page in rw p
    (leads_end page (records_of page) infimum supremum k c.leads (omega arith))
