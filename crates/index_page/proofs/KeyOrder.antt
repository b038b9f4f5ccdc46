-- Keys along the chain by places of the walk.
use Rattle.std.proofs.Common.{◌≡◌, ℕ, zero, suc, get_or, ◌+◌, ◌-◌, ◌<◌, ◌≤◌, Bool, List, length, sym, ◌∙◌, subst}
use Rattle.std.proofs.Common.{ap, arith, inl, inr}
use Rattle.std.proofs.lemmas.Bool.{cases_lt}
use Rattle.column_values.specs.Types.{Fields}
use Rattle.compact_record.specs.Header.{next_origin}
use Rattle.column_values.specs.Order.{Key}
use Rattle.column_values.proofs.KeyOrder.{is_transitive}
use Rattle.compact_record.specs.Reading.{IsSpelled, record_end, Reading, IsReading, key_of, key_kinds}
use Rattle.compact_record.specs.Keys.{IsWholeReading}
use Rattle.index_page.specs.Header.{record_count, record_at, records_of, free_of, heap_of, first_record}
use Rattle.index_page.specs.Page.{HasHeader, IsChain, AreSpelled, LieApart, HasRoom, KeysRise, IsRise}
use Rattle.index_page.specs.Laws.{KeysRiseThroughout}
use Rattle.index_page.proofs.RecordWalk.{record_at_none, get_or-records_from, length-records_from, places_of_All}
use Rattle.index_page.proofs.RecordWalk.{All-front}
use Rattle.index_page.proofs.ChainWalk.{walk_of_chain, on_page, place_next}

-- record k and the one behind it
abbrev pub RisesAt : List ℕ → Fields → Bool → ℕ → Type 0
RisesAt page fields lowest_first k = IsRise page fields lowest_first k (record_at page (first_record page) k)
    (record_at page (first_record page) (k + 1))

pub rise_of : (page : List ℕ) (fields : Fields) (lowest_first : Bool)
    → ((k : ℕ) → k + 1 < record_count page → RisesAt page fields lowest_first k)
    → KeysRise page fields lowest_first (records_of page)
rise_of page fields lowest_first each k below =
    let n = record_count page in
    let in' : k + 1 < n = omega (arith, length-records_from page (first_record page) n) in
    let out : k < n = omega arith in
    rw (
      get_or-records_from page (first_record page) n k 0 out,
      get_or-records_from page (first_record page) n (k + 1) 0 in',
    ) (each k in')

pub rises_at : (page : List ℕ) (fields : Fields) (lowest_first : Bool) (k : ℕ)
    → KeysRise page fields lowest_first (records_of page) → k + 1 < record_count page
    → RisesAt page fields lowest_first k
rises_at page fields lowest_first k rise in' =
    let n = record_count page in
    let out : k < n = omega arith in
    let below : k + 1 < length (records_of page) = omega (arith, length-records_from page (first_record page) n) in
    rw (
      get_or-records_from page (first_record page) n k 0 out,
      get_or-records_from page (first_record page) n (k + 1) 0 in',
    ) at (rise k below)

-- what is known of the record at a place of the chain
pub record PlaceFacts (page : List ℕ) (fields : Fields) (origin : ℕ) : Type 0 where
  pub least : 125 ≤ origin
  pub most : origin ≤ 16384
  pub spelled : IsSpelled page origin fields
  pub ends : record_end page origin fields ≤ 16384

pub place_facts : (page : List ℕ) (fields : Fields) (i origin : ℕ) → HasHeader page → IsChain page (records_of page)
    → AreSpelled page fields (heap_of page) → LieApart page fields (heap_of page)
    → origin ≡ record_at page (first_record page) i → i < record_count page → PlaceFacts page fields origin
place_facts page fields i origin header is spelled lie place below =
    let P : ℕ → Type 0 = λ o. IsSpelled page o fields in
    let n = record_count page in
    let first = first_record page in
    let here = on_page page first n i origin header (walk_of_chain page is).origins place below in
    let room = places_of_All page (HasRoom page fields) first n
    (All-front (HasRoom page fields) (records_of page) (free_of page) lie.within) i below in
    let top = header.top_most in
    let ends : record_end page origin fields ≤ 16384 = rw place (omega (arith, room.most, top)) in
    record {
      least = here.0;
      most = here.1;
      spelled = subst P (sym place) (places_of_All page P first n
          (All-front P (records_of page) (free_of page) spelled) i below);
      ends = ends;
    }

-- one place more
pub rises_more : (page : List ℕ) (fields : Fields) (lowest_first : Bool) (i here next : ℕ)
    → here ≡ record_at page (first_record page) i → next ≡ record_at page (first_record page) (i + 1)
    → IsRise page fields lowest_first i here next → ((k : ℕ) → k < i → RisesAt page fields lowest_first k) → (k : ℕ)
    → k < i + 1 → RisesAt page fields lowest_first k
rises_more page fields lowest_first i here next place place' rise before k below =
    elim (cases_lt k i) [
      | inl less ↦ before k less
      | inr more ↦ let e : k ≡ i = omega arith in rw e (rw (place, place') at rise)
    ]

-- the first place, and the next one
pub first_facts : (page : List ℕ) (fields : Fields) (n origin : ℕ) → HasHeader page → IsChain page (records_of page)
    → AreSpelled page fields (heap_of page) → LieApart page fields (heap_of page)
    → n ≡ record_count page → (n ≡ 0 → ⊥) → origin ≡ first_record page
    → (origin ≡ record_at page (first_record page) 0) × PlaceFacts page fields origin
first_facts page fields n origin header is spelled lie counted some first =
    let place : origin ≡ record_at page (first_record page) 0 = first
    ∙ sym (record_at_none page (first_record page)) in
    (place, place_facts page fields 0 origin header is spelled lie place (omega arith))

pub next_facts : (page : List ℕ) (fields : Fields) (n i origin next : ℕ) → HasHeader page
    → IsChain page (records_of page) → AreSpelled page fields (heap_of page) → LieApart page fields (heap_of page)
    → n ≡ record_count page → i < n - 1 → origin ≡ record_at page (first_record page) i
    → next ≡ next_origin page origin
    → (next ≡ record_at page (first_record page) (i + 1)) × PlaceFacts page fields next
next_facts page fields n i origin next header is spelled lie counted below place is-next =
    let place' = place_next page (first_record page) i origin next place is-next in
    (place', place_facts page fields (i + 1) next header is spelled lie place' (omega arith))

-- the record that was read there
pub whole_reading : (page : List ℕ) (fields : Fields) (origin : ℕ) (reading : Reading) → PlaceFacts page fields origin
    → IsReading page origin fields reading → IsWholeReading page fields reading
whole_reading page fields origin reading facts is =
    let stands = sym is.stands in
    let P : ℕ → Type 0 = λ o. IsReading page o fields reading in
    let Q : ℕ → Type 0 = λ o. record_end page o fields ≤ 16384 in
    record { read = subst P stands is; ends = subst Q stands facts.ends }

-- the keys of two records rise where those of all neighbours do
rise_over : (page : List ℕ) (fields : Fields) (lowest_first : Bool) (chain : List ℕ) (i d : ℕ)
    → KeysRise page fields lowest_first chain → i + (d + 1) < length chain
    → IsRise page fields lowest_first i (get_or chain i 0) (get_or chain (i + (d + 1)) 0)
rise_over page fields lowest_first chain i zero rise below =
    let e : i + (0 + 1) ≡ i + 1 = omega arith in
    rw e (rise i (omega arith))
rise_over page fields lowest_first chain i (suc d) rise below =
    let before : ℕ = i + (d + 1) in
    let e : i + (suc d + 1) ≡ before + 1 = omega arith in
    let here = rise before (omega arith) in
    let kinds = key_kinds fields in
    let key : ℕ → Key = λ k. key_of page (get_or chain k 0) fields in
    rw e (elim (rise_over page fields lowest_first chain i d rise (omega arith)) [
      | inl first ↦ inl first
      | inr low ↦ elim here [
        | inl none ↦ absurd (omega (arith, none.0))
        | inr high ↦ inr (is_transitive kinds (key i) (key before) (key (before + 1)) low high)
      ]
    ])

pub rise_throughout : KeysRiseThroughout
rise_throughout page fields lowest_first chain i j rise before below =
    let d : ℕ = j - (i + 1) in
    let e : j ≡ i + (d + 1) = omega arith in
    rw e (rise_over page fields lowest_first chain i d rise (omega arith))

-- one place more, where each is compared with the one before it
pub rises_behind : (page : List ℕ) (fields : Fields) (lowest_first : Bool) (i before here : ℕ)
    → (0 < i → before ≡ record_at page (first_record page) (i - 1)) → here ≡ record_at page (first_record page) i
    → (0 < i → IsRise page fields lowest_first (i - 1) before here)
    → ((k : ℕ) → k + 1 < i → RisesAt page fields lowest_first k) → (k : ℕ)
    → k + 1 < i + 1 → RisesAt page fields lowest_first k
rises_behind page fields lowest_first i before here place place' rise earlier k below =
    elim (cases_lt (k + 1) i) [
      | inl less ↦ earlier k less
      | inr more ↦
          let some : 0 < i = omega (arith, below) in
          let e : i - 1 ≡ k = omega (arith, below, more) in
          let f : i ≡ k + 1 = omega (arith, below, more) in
          let P : ℕ → ℕ → ℕ → Type 0 = λ j a b. IsRise page fields lowest_first j a b in
          let there : before ≡ record_at page (first_record page) k = place some
          ∙ ap (λ j. record_at page (first_record page) j) e in
          let behind : here ≡ record_at page (first_record page) (k + 1) = place'
          ∙ ap (λ j. record_at page (first_record page) j) f in
          subst (λ b. P k (record_at page (first_record page) k) b) behind
          (subst (λ a. P k a here) there (subst (λ j. P j before here) e (rise some)))
    ]
