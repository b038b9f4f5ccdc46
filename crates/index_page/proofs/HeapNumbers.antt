-- Heap numbers that are marked one after another are different ones; the free list.
use Rattle.std.proofs.Common.{◌≡◌, ◌≢◌, ◌==◌, ℕ, zero, suc, ◌+◌, ◌<◌, ◌↔◌, Bool, true, false, List, length, map, All}
use Rattle.std.proofs.Common.{AllPairs, refl, sym, ap, ◌∙◌, arith, add-one, inl, inr, eqb-true, eq-eqb}
use Rattle.std.specs.Bool.{⊤, IsTrue}
use Rattle.std.proofs.lemmas.Bool.{cases_eq, false≢true}
use Rattle.std.proofs.lemmas.List.{get_or-map, length-map}
use Rattle.std.proofs.lemmas.List.Elements.{All-append}
use Rattle.page_source.specs.Lists.{AreDistinct}
use Rattle.compact_record.specs.Header.{next_origin, next_field, heap_number}
use Rattle.index_page.specs.Header.{record_count, first_free, record_at, records_from, records_of, free_of, free_count}
use Rattle.index_page.specs.Header.{heap_of, first_record}
use Rattle.index_page.specs.Page.{HasHeader, IsOrigin, IsHeapNumber, LeadsToEnd, IsFreeList, HasHeapNumbers}
use Rattle.index_page.specs.Page.{ends_after, IsFreeWalk}
use Rattle.index_page.specs.PageChecks.{HasFreeList}
use Rattle.index_page.specs.Marks.{Seen, none_seen, with_mark, PassInTurn, IsNew, with_number, chain_numbers}
use Rattle.index_page.proofs.RecordWalk.{record_at_none, record_at_more, record_at_behind, length-records_from}
use Rattle.index_page.proofs.RecordWalk.{All_of_places, places_of_All}
use Rattle.index_page.proofs.RecordWalk.{All-front, All-back}
use Rattle.index_page.proofs.MarkBits.{with_mark_same, with_mark_other}
use Rattle.index_page.proofs.Turns.{IsMarking, pairs_of_turns, PassInTurn-append}

abbrev AnyRecord : ℕ → Type 0
AnyRecord origin = ⊤

abbrev IsClear : List ℕ → Seen → ℕ → Type 0
IsClear page seen origin = seen (heap_number page origin) ≡ false

abbrev Differ : List ℕ → ℕ → ℕ → Type 0
Differ page x y = heap_number page x ≢ heap_number page y

clear_after : (page : List ℕ) (seen : Seen) (x y : ℕ) → IsClear page (with_number page seen x) y
    ↔ (IsClear page seen y × Differ page x y)
clear_after page seen x y =
    let m = heap_number page x in
    let n = heap_number page y in (
      λ clear. elim (cases_eq n m) [
        | inl same ↦ absurd (false≢true (sym clear ∙ ap (λ k. with_mark seen m k) same ∙ with_mark_same seen m))
        | inr other ↦ (sym (with_mark_other seen m n other) ∙ clear, λ e. other (sym e))
      ],
      λ both. with_mark_other seen m n (λ e. both.1 (sym e)) ∙ both.0,
    )

numbers_mark : (page : List ℕ) → IsMarking (IsNew page) (with_number page) AnyRecord (IsHeapNumber page)
    (IsClear page) (Differ page)
numbers_mark page =
    record {
      splits = λ seen x _. (λ new. (new.number, new.new), λ both. record { number = both.0; new = both.1 });
      grows = λ seen x y _ _. clear_after page seen x y;
    }

differ_of : (page records : List ℕ) → AreDistinct (map (heap_number page) records) → AllPairs (Differ page) records
differ_of page records distinct i j d before below =
    let in' : j < length records = below in
    rw (
      sym (get_or-map (heap_number page) records i d 0 (omega arith)),
      sym (get_or-map (heap_number page) records j d 0 in'),
    )
    (distinct i j 0 before (omega (arith, length-map records (heap_number page))))

distinct_of : (page records : List ℕ) → AllPairs (Differ page) records → AreDistinct (map (heap_number page) records)
distinct_of page records differ i j d before below =
    let in' : j < length records = omega (arith, length-map records (heap_number page)) in
    let out : i < length records = omega arith in
    rw (
      get_or-map (heap_number page) records i 0 d out,
      get_or-map (heap_number page) records j 0 d in',
    ) (differ i j 0 before in')

-- all of a list are new in turn exactly where they have their own heap numbers
pub numbers_of_turns : (page records : List ℕ) → PassInTurn (IsNew page) (with_number page) none_seen records
    ↔ HasHeapNumbers page records
numbers_of_turns page records =
    let turns = pairs_of_turns (IsNew page) (with_number page) AnyRecord (IsHeapNumber page) (IsClear page)
    (Differ page) (numbers_mark page) records none_seen (λ k d below. tt) in (
      λ all. let apart = turns.0 all in record {
        within = apart.facts;
        distinct =
            distinct_of page records apart.together;
      },
      λ has. turns.1 (record {
        facts = has.within;
        together = differ_of page records has.distinct;
        clear =
            λ k d below. refl;
      }),
    )

-- records with their own heap numbers are different ones
origins_differ : (page records : List ℕ) → HasHeapNumbers page records → AreDistinct records
origins_differ page records has i j d before below same =
    differ_of page records has.distinct i j d before below (ap (λ o. heap_number page o) same)

pub ends_none : (page : List ℕ) (first : ℕ) → ends_after page first 0 ≡ (first == 0)
unfolding ends_after
ends_none page first = refl

pub ends_more : (page : List ℕ) (first i : ℕ) → ends_after page first (i + 1)
    ≡ (next_field page (record_at page first i) == 0)
unfolding ends_after
ends_more page first i = rw add-one refl

-- the same from the second record on
ends_behind : (page : List ℕ) (first n : ℕ) → ends_after page first (suc (suc n))
    ≡ ends_after page (next_origin page first) (suc n)
unfolding ends_after
ends_behind page first n =
    let e : suc n ≡ n + 1 = omega arith in
    ap (λ o. next_field page o == 0) (ap (λ k. record_at page first k) e ∙ sym (record_at_behind page first n))

-- the free records lead to the end exactly where the last of them ends the list
leads_to_end : (page : List ℕ) (first n : ℕ) → ends_after page first n ≡ true
    → LeadsToEnd page first (records_from page first n)
unfolding ends_after records_from record_at
leads_to_end page first zero ends = eqb-true _ _ ends
leads_to_end page first (suc zero) ends = (refl, eqb-true _ _ ends)
leads_to_end page first (suc (suc n)) ends =
    let behind : ends_after page (next_origin page first) (suc n) ≡ true = sym (ends_behind page first n) ∙ ends in
    (refl, leads_to_end page (next_origin page first) (suc n) behind)

led_to_end : (page : List ℕ) (first n : ℕ) → LeadsToEnd page first (records_from page first n)
    → ends_after page first n ≡ true
unfolding ends_after records_from record_at
led_to_end page first zero leads = eq-eqb _ _ leads
led_to_end page first (suc zero) leads = eq-eqb _ _ leads.1
led_to_end page first (suc (suc n)) leads = ends_behind page first n
    ∙ led_to_end page (next_origin page first) (suc n) leads.1

-- the walk that the code goes is the free list
pub free_of_walk : (page : List ℕ) → HasHeader page → HasHeapNumbers page (heap_of page) → IsFreeWalk page
    → IsFreeList page (records_of page) (free_of page)
free_of_walk page header numbers walk =
    let chain = length-records_from page (first_record page) (record_count page) in
    let free = length-records_from page (first_free page) (free_count page) in
    record {
      origins = All_of_places page (IsOrigin page) (first_free page) (free_count page) walk.origins;
      distinct = origins_differ page (heap_of page) numbers;
      leads = leads_to_end page (first_free page) (free_count page) walk.ends;
      all = omega (arith, chain, free, header.heap);
    }

pub walk_of_free : (page : List ℕ) → IsFreeList page (records_of page) (free_of page) → IsFreeWalk page
walk_of_free page is =
    record {
      origins = places_of_All page (IsOrigin page) (first_free page) (free_count page) is.origins;
      ends = led_to_end page (first_free page) (free_count page) is.leads;
    }

-- the two tests of the free list
pub free_list_of : (page : List ℕ) → HasHeader page → HasHeapNumbers page (records_of page) → IsFreeWalk page
    → PassInTurn (IsNew page) (with_number page) (chain_numbers page) (free_of page) → HasFreeList page
free_list_of page header had walk new =
    let both = (PassInTurn-append (IsNew page) (with_number page) none_seen (records_of page) (free_of page)).1
    ((numbers_of_turns page (records_of page)).1 had, new) in
    let numbers = (numbers_of_turns page (heap_of page)).0 both in
    record { list = free_of_walk page header numbers walk; numbers = numbers }

pub new_of_free : (page : List ℕ) → HasFreeList page → PassInTurn (IsNew page) (with_number page) (chain_numbers page)
    (free_of page)
new_of_free page has =
    ((PassInTurn-append (IsNew page) (with_number page) none_seen (records_of page) (free_of page)).0
    ((numbers_of_turns page (heap_of page)).1 has.numbers)).1

-- the same for the calls that the code makes
pub heap_numbers_exact : (page : List ℕ) (seen : Seen) (first n : ℕ) (r : Bool) → first ≡ first_record page
    → n ≡ record_count page → seen ≡ none_seen
    → IsTrue r ↔ PassInTurn (IsNew page) (with_number page) seen (records_from page first n)
    → IsTrue r ↔ HasHeapNumbers page (records_of page)
heap_numbers_exact page seen first n r starts counted clear turns =
    let exact = numbers_of_turns page (records_of page) in
    let here = rw (starts, counted, clear) at turns in
    (λ t. exact.0 (here.0 t), λ has. here.1 (exact.1 has))

pub free_list_exact : (page : List ℕ) (seen : Seen) (first n : ℕ) (r : Bool) → HasHeader page
    → HasHeapNumbers page (records_of page) → IsFreeWalk page
    → first ≡ first_free page → n ≡ free_count page → seen ≡ chain_numbers page
    → IsTrue r ↔ PassInTurn (IsNew page) (with_number page) seen (records_from page first n)
    → IsTrue r ↔ HasFreeList page
free_list_exact page seen first n r header had walk starts counted marked turns =
    let here = rw (starts, counted, marked) at turns in
    (λ t. free_list_of page header had walk (here.0 t), λ has. here.1 (new_of_free page has))

-- a fact on all records of the heap from two calls, one for the chain and one for the free list
pub both_lists : (page : List ℕ) (P : ℕ → Type 0) (first n free m : ℕ) (r : Bool) → first ≡ first_record page
    → n ≡ record_count page → free ≡ first_free page → m ≡ free_count page
    → All P (records_from page first n) → IsTrue r ↔ All P (records_from page free m) → IsTrue r ↔ All P (heap_of page)
both_lists page P first n free m r starts counted frees many chain rest =
    let chain' = rw (starts, counted) at chain in
    let rest' = rw (frees, many) at rest in (
      λ t. All-append P (records_of page) (free_of page) chain' (rest'.0 t),
      λ all. rest'.1 (All-back P (records_of page) (free_of page) all),
    )

pub front_list : (page : List ℕ) (P : ℕ → Type 0) (first n : ℕ) (r : Bool) → first ≡ first_record page
    → n ≡ record_count page
    → IsTrue r ↔ All P (records_from page first n) → All P (heap_of page) → IsTrue r
front_list page P first n r starts counted chain all =
    let chain' = rw (starts, counted) at chain in
    chain'.1 (All-front P (records_of page) (free_of page) all)

-- one step along the free list
pub ruleset free_steps = (record_at_none, record_at_more, ends_none, ends_more)
