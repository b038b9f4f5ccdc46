-- The record chain as a walk: its records are origins, and the supremum stands behind the last.
use Rattle.std.proofs.Common.{◌≡◌, ◌≢◌, ℕ, zero, suc, ◌+◌, ◌-◌, ◌<◌, ◌≤◌, List, [], ◌∷◌, ◌++◌, length, AllPairs, refl}
use Rattle.std.proofs.Common.{sym, ap, ◌∙◌, subst, arith}
use Rattle.std.proofs.Common.{inl, inr}
use Rattle.std.proofs.lemmas.Bool.{cases_lt}
use Rattle.compact_record.specs.Header.{next_origin}
use Rattle.index_page.specs.Header.{infimum, supremum, record_count, record_at, records_from, first_record, records_of}
use Rattle.index_page.specs.Page.{IsOrigin, AreOrigins, Leads, IsChain, HasHeader}
use Rattle.index_page.proofs.RecordWalk.{record_at_none, record_at_more, record_at_behind, record_at_sum}
use Rattle.index_page.proofs.RecordWalk.{length-records_from, get_or-records_from, records_from_suc, records_from_more}
use Rattle.index_page.proofs.RecordWalk.{All_of_places, places_of_All}

-- a walk over origins that ends at the supremum
pub record Walks (page : List ℕ) (first n : ℕ) : Type 0 where
  pub origins : AreOrigins page first n
  pub ends : record_at page first n ≡ supremum

-- a record met twice would go round for ever: from its second place on the way to the supremum is shorter
pub walk_differs : (page : List ℕ) (first n i j : ℕ) → Walks page first n → i < j → j < n
    → record_at page first i ≢ record_at page first j
walk_differs page first n i j walks before below again =
    let d : ℕ = n - j in
    let e : j + d ≡ n = omega arith in
    let there = record_at_sum page first j d ∙ ap (λ k. record_at page first k) e ∙ walks.ends in
    let here = record_at_sum page first i d in
    let same : record_at page first (i + d) ≡ supremum = sym here ∙ ap (λ o. record_at page o d) again ∙ there in
    let good = walks.origins (i + d) (omega arith) in
    omega (arith, good, same)

distinct_of : (page : List ℕ) (first n : ℕ) → Walks page first n → AllPairs (λ a b. a ≢ b) (records_from page first n)
distinct_of page first n walks i j d before below =
    let in' : j < n = omega (arith, length-records_from page first n) in
    let out : i < n = omega arith in
    rw (get_or-records_from page first n i d out, get_or-records_from page first n j d in')
    (walk_differs page first n i j walks before in')

-- to lead somewhere is to end there
leads_of : (page : List ℕ) (start n end : ℕ) → record_at page (next_origin page start) n ≡ end
    → Leads page start (records_from page (next_origin page start) n) end
unfolding records_from
leads_of page start zero end e = sym (record_at_none page (next_origin page start)) ∙ e
leads_of page start (suc n) end e =
    let f : suc n ≡ n + 1 = omega arith in
    (refl, leads_of page (next_origin page start) n end (record_at_behind page (next_origin page start) n ∙ rw f at e))

ends_of : (page : List ℕ) (start n end : ℕ) → Leads page start (records_from page (next_origin page start) n) end
    → record_at page (next_origin page start) n ≡ end
unfolding records_from
ends_of page start zero end leads = record_at_none page (next_origin page start) ∙ leads
ends_of page start (suc n) end leads =
    let f : suc n ≡ n + 1 = omega arith in
    rw f (sym (record_at_behind page (next_origin page start) n) ∙ ends_of page (next_origin page start) n end leads.1)

pub chain_of_walk : (page : List ℕ) → Walks page (first_record page) (record_count page)
    → IsChain page (records_of page)
chain_of_walk page walks =
    let n = record_count page in
    let first = first_record page in
    record {
      counted = length-records_from page first n;
      origins = All_of_places page (IsOrigin page) first n walks.origins;
      distinct = distinct_of page first n walks;
      leads = leads_of page infimum n supremum walks.ends;
    }

pub walk_of_chain : (page : List ℕ) → IsChain page (records_of page)
    → Walks page (first_record page) (record_count page)
walk_of_chain page is =
    let n = record_count page in
    let first = first_record page in
    record {
      origins = places_of_All page (IsOrigin page) first n is.origins;
      ends = ends_of page infimum n supremum is.leads;
    }

-- a list that leads somewhere is that of the records behind the first
leads_only : (page chain : List ℕ) (start end n : ℕ) → length chain ≡ n → Leads page start chain end
    → chain ≡ records_from page (next_origin page start) n
unfolding records_from
leads_only page [] start end zero counted leads = refl
leads_only page [] start end (suc n) counted leads = absurd (omega arith)
leads_only page (origin ∷ rest) start end zero counted leads = absurd (omega arith)
leads_only page (origin ∷ rest) start end (suc n) counted leads =
    let behind = leads_only page rest origin end n (omega arith) leads.1 in
    ap (λ (xs : List ℕ). origin ∷ xs) behind ∙ ap (λ (x : ℕ). x ∷ records_from page (next_origin page x) n)
    (sym leads.0)

-- a page has one chain
pub chain_is : (page chain : List ℕ) → IsChain page chain → chain ≡ records_of page
chain_is page chain is = leads_only page chain infimum supremum (record_count page) is.counted is.leads

-- the chain with its ends, as one walk from the infimum
pub whole_chain : (page : List ℕ) → Walks page (first_record page) (record_count page)
    → records_from page infimum (record_count page + 2) ≡ infimum ∷ records_of page ++ supremum ∷ []
whole_chain page walks =
    let n = record_count page in
    let first = first_record page in
    let e : n + 2 ≡ (n + 1) + 1 = omega arith in
    let more = records_from_more page first n ∙ ap (λ (o : ℕ). records_of page ++ o ∷ []) walks.ends in
    rw e (records_from_suc page infimum (n + 1) ∙ ap (λ (xs : List ℕ). infimum ∷ xs) more)

-- each of its places
pub place_bounds : (page : List ℕ) (i : ℕ) → Walks page (first_record page) (record_count page) → HasHeader page
    → i < record_count page + 2
    → (99 ≤ record_at page infimum i) × (record_at page infimum i ≤ 16384)
place_bounds page zero walks header below = rw record_at_none (omega arith, omega arith)
place_bounds page (suc i) walks header below =
    let e : suc i ≡ i + 1 = omega arith in
    let behind = record_at_behind page infimum i in
    let top = header.top_most in
    elim (cases_lt i (record_count page)) [
      | inl in' ↦ let good = walks.origins i in' in rw (e, ← behind) (omega (arith, good), omega (arith, good, top))
      | inr past ↦
          let last : i ≡ record_count page = omega arith in
          let end = walks.ends in
          rw (e, ← behind, last, end) (omega arith, omega arith)
    ]

-- at a place of the chain there is an origin
pub chain_place : (page : List ℕ) (i origin : ℕ) → IsChain page (records_of page)
    → origin ≡ record_at page (first_record page) i → i < record_count page → IsOrigin page origin
chain_place page i origin is place below = subst (IsOrigin page) (sym place) ((walk_of_chain page is).origins i below)

-- and behind the last the supremum
pub chain_ends : (page : List ℕ) (i origin : ℕ) → i ≡ record_count page
    → origin ≡ record_at page (first_record page) i → IsChain page (records_of page) → origin ≡ supremum
chain_ends page i origin all place is = place ∙ ap (λ k. record_at page (first_record page) k) all
    ∙ (walk_of_chain page is).ends

pub chain_ended : (page : List ℕ) (i origin : ℕ) → i ≡ record_count page
    → origin ≡ record_at page (first_record page) i → AreOrigins page (first_record page) i → origin ≡ supremum
    → IsChain page (records_of page)
chain_ended page i origin all place origins last =
    let P : ℕ → Type 0 = λ n. AreOrigins page (first_record page) n in
    chain_of_walk page (record {
      origins = subst P all origins;
      ends = ap (λ k. record_at page (first_record page) k) (sym all) ∙ sym place ∙ last;
    })

-- the place of a walk over the whole chain lies on the page
abbrev pub InPage : ℕ → ℕ → ℕ → Type 0
InPage n i origin = i < n → (99 ≤ origin) × (origin ≤ 16384)

pub in_page : (page : List ℕ) (n i origin : ℕ) → n ≡ record_count page + 2 → HasHeader page
    → IsChain page (records_of page) → origin ≡ record_at page infimum i → InPage n i origin
in_page page n i origin all header is place below =
    let bounds = place_bounds page i (walk_of_chain page is) header (omega arith) in
    (omega (arith, place, bounds), omega (arith, place, bounds))

-- the place of a walk over origins
abbrev pub OnPage : ℕ → ℕ → ℕ → Type 0
OnPage n i origin = i < n → (125 ≤ origin) × (origin ≤ 16384)

pub on_page : (page : List ℕ) (first n i origin : ℕ) → HasHeader page → AreOrigins page first n
    → origin ≡ record_at page first i → OnPage n i origin
on_page page first n i origin header origins place below =
    let good = origins i below in
    let top = header.top_most in
    (omega (arith, place, good), omega (arith, place, good, top))

-- one step on
pub place_next : (page : List ℕ) (first i origin next : ℕ) → origin ≡ record_at page first i
    → next ≡ next_origin page origin → next ≡ record_at page first (i + 1)
place_next page first i origin next place is = is ∙ ap (λ o. next_origin page o) place
    ∙ sym (record_at_more page first i)

-- the same for the chain
pub chain_on_page : (page : List ℕ) (n i origin : ℕ) → n ≡ record_count page → HasHeader page
    → IsChain page (records_of page) → origin ≡ record_at page (first_record page) i → OnPage n i origin
chain_on_page page n i origin all header is place below =
    on_page page (first_record page) (record_count page) i origin header (walk_of_chain page is).origins place
    (omega arith)
