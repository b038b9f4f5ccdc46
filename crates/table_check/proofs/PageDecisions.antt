-- Each condition of the checks of an index page is decided.
use Rattle.std.proofs.Common.{◌≡◌, ◌≢◌, ℕ, zero, suc, ◌+◌, ◌-◌, ◌*◌, ◌<◌, Bool, true, false, List, [], ◌∷◌, ◌++◌}
use Rattle.std.proofs.Common.{length, take, drop, map, get_or, All, refl, sym, ap, ◌∙◌, subst, inl, inr, arith}
use Rattle.std.specs.Prelude.{codes, slice_range}
use Rattle.std.specs.List.{AllPairs}
use Rattle.std.specs.declared.cmp.Ordering.{Ordering}
use Rattle.std.specs.declared.cmp.Ordering.TheVariants.{Less, Equal, Greater}
use Rattle.std.proofs.lemmas.Bool.{false≢true}
use Rattle.page_source.proofs.Decided.{IsDecided, same_decided, both_decided, three_decided, either_decided}
use Rattle.page_source.proofs.Decided.{not_decided}
use Rattle.page_source.proofs.Decided.{given_decided, number_decided, below_decided, most_decided, truth_decided}
use Rattle.page_source.proofs.Decided.{text_decided, all_decided, pairs_decided, some_decided, every_decided}
use Rattle.column_values.specs.Types.{Fields, field_at}
use Rattle.column_values.specs.Order.{Key, key_cmp, IsBelow, AreEqualKeys}
use Rattle.compact_record.specs.Header.{next_field, next_origin, heap_number, status_of, owned_by}
use Rattle.compact_record.specs.Reading.{head_length, has_long_length, is_external, local_length, record_start}
use Rattle.compact_record.specs.Reading.{record_end}
use Rattle.compact_record.specs.Reading.{field_count, FieldIsSpelled, IsSpelled, key_of, key_kinds}
use Rattle.index_page.specs.Header.{infimum, supremum, slot_count, heap_top, heap_field, heap_count, first_free}
use Rattle.index_page.specs.Header.{record_count, records_of, free_of, heap_of, slot_at}
use Rattle.index_page.specs.Page.{HasHeader, HasEnds, IsOrigin, IsHeapNumber, Leads, IsChain, LeadsToEnd}
use Rattle.index_page.specs.Page.{HasHeapNumbers, HasGroupSize, IsGroup, Cuts, IsDirectory, HasKind, HasRoom, AreApart}
use Rattle.index_page.specs.Page.{LieApart, MayBeEmpty, IsRise, KeysRise}
use Rattle.index_page.specs.PageChecks.{HasFreeList}

pub header_decided : (page : List ℕ) → IsDecided (HasHeader page)
header_decided page =
    same_decided
    (λ h. record { slots = h.0.0; top_least = h.0.1; top_most = h.1.0; compact = h.1.1; heap = h.1.2 })
    (λ h. ((h.slots, h.top_least), (h.top_most, h.compact, h.heap)))
    (both_decided (both_decided (most_decided 2 (slot_count page)) (most_decided 120 (heap_top page)))
    (three_decided (most_decided (heap_top page + 2 * slot_count page) 16376) (most_decided 32768 (heap_field page))
    (most_decided (record_count page + 2) (heap_count page))))

pub page_ends : (page : List ℕ) → IsDecided (HasEnds page)
page_ends page =
    same_decided
    (λ h. record {
      infimum_text = h.0.0;
      supremum_text = h.0.1;
      infimum_heap = h.1.0.0;
      supremum_heap = h.1.0.1;
      infimum_status = h.1.1.0;
      supremum_status = h.1.1.1;
      last = h.1.1.2;
    })
    (λ h. (
      (h.infimum_text, h.supremum_text),
      ((h.infimum_heap, h.supremum_heap), (h.infimum_status, h.supremum_status, h.last)),
    ))
    (both_decided
    (both_decided (text_decided (slice_range page infimum (infimum + 8)) (codes "infimum" ++ 0 ∷ []))
    (text_decided (slice_range page supremum (supremum + 8)) (codes "supremum")))
    (both_decided
    (both_decided (number_decided (heap_number page infimum) 0) (number_decided (heap_number page supremum) 1))
    (three_decided (number_decided (status_of page infimum) 2) (number_decided (status_of page supremum) 3)
    (number_decided (next_field page supremum) 0))))

distinct_decided : (list : List ℕ) → IsDecided (AllPairs (λ x y. x ≢ y) list)
distinct_decided list = pairs_decided (λ x y. x ≢ y) (λ x y. not_decided (number_decided x y)) list

origin_decided : (page : List ℕ) (origin : ℕ) → IsDecided (IsOrigin page origin)
origin_decided page origin = both_decided (most_decided 125 origin) (most_decided origin (heap_top page))

chain_leads : (page : List ℕ) (start : ℕ) (list : List ℕ) (end : ℕ) → IsDecided (Leads page start list end)
chain_leads page start [] end = number_decided (next_origin page start) end
chain_leads page start (origin ∷ rest) end =
    both_decided (number_decided (next_origin page start) origin) (chain_leads page origin rest end)

pub chain_decided : (page chain : List ℕ) → IsDecided (IsChain page chain)
chain_decided page chain =
    same_decided (λ h. record { counted = h.0.0; origins = h.0.1; distinct = h.1.0; leads = h.1.1 })
    (λ h. ((h.counted, h.origins), (h.distinct, h.leads)))
    (both_decided
    (both_decided (number_decided (length chain) (record_count page))
    (all_decided (IsOrigin page) (origin_decided page) chain))
    (both_decided (distinct_decided chain) (chain_leads page infimum chain supremum)))

pub numbers_decided : (page records : List ℕ) → IsDecided (HasHeapNumbers page records)
numbers_decided page records =
    same_decided (λ h. record { within = h.0; distinct = h.1 }) (λ h. (h.within, h.distinct))
    (both_decided
    (all_decided (IsHeapNumber page)
    (λ origin. both_decided (most_decided 2 (heap_number page origin))
    (below_decided (heap_number page origin) (heap_count page))) records)
    (distinct_decided (map (heap_number page) records)))

free_leads : (page : List ℕ) (first : ℕ) (list : List ℕ) → IsDecided (LeadsToEnd page first list)
free_leads page first [] = number_decided first 0
free_leads page first (origin ∷ []) =
    both_decided (number_decided first origin) (number_decided (next_field page origin) 0)
free_leads page first (origin ∷ next ∷ rest) =
    both_decided (number_decided first origin) (free_leads page (next_origin page origin) (next ∷ rest))

pub free_decided : (page : List ℕ) → IsDecided (HasFreeList page)
free_decided page =
    same_decided
    (λ h. record {
      list = record { origins = h.0.0; distinct = h.0.1; leads = h.1.0; all = h.1.1 };
      numbers = h.2;
    })
    (λ h. ((h.list.origins, h.list.distinct), (h.list.leads, h.list.all), h.numbers))
    (three_decided
    (both_decided (all_decided (IsOrigin page) (origin_decided page) (free_of page))
    (distinct_decided (records_of page ++ free_of page)))
    (both_decided (free_leads page (first_free page) (free_of page))
    (number_decided (length (records_of page) + length (free_of page) + 2) (heap_count page)))
    (numbers_decided page (heap_of page)))

-- the directory: where the records are cut is found by trying each place
group_size : (slot size : ℕ) → IsDecided (HasGroupSize slot size)
group_size slot size =
    same_decided (λ h. record { first = h.0; last = h.1; other = h.2 }) (λ h. (h.first, h.last, h.other))
    (three_decided (given_decided (number_decided slot infimum) (number_decided size 1))
    (given_decided (number_decided slot supremum) (both_decided (most_decided 1 size) (most_decided size 8)))
    (given_decided (not_decided (number_decided slot infimum))
    (given_decided (not_decided (number_decided slot supremum))
    (both_decided (most_decided 4 size) (most_decided size 8)))))

group_decided : (page : List ℕ) (slot : ℕ) (front : List ℕ) → IsDecided (IsGroup page slot front)
group_decided page slot front =
    same_decided (λ h. record { unowned = h.0; owned = h.1; size = h.2 }) (λ h. (h.unowned, h.owned, h.size))
    (three_decided
    (all_decided (λ origin. owned_by page origin ≡ 0) (λ origin. number_decided (owned_by page origin) 0) front)
    (number_decided (owned_by page (slot_at page slot)) (length front + 1))
    (group_size (slot_at page slot) (length front + 1)))

take_front : (front : List ℕ) (x : ℕ) (rest : List ℕ) → take (length front) (front ++ x ∷ rest) ≡ front
take_front [] x rest = refl
take_front (y ∷ front) x rest = ap (λ (l : List ℕ). y ∷ l) (take_front front x rest)

drop_front : (front : List ℕ) (x : ℕ) (rest : List ℕ) → drop (suc (length front)) (front ++ x ∷ rest) ≡ rest
drop_front [] x rest = refl
drop_front (y ∷ front) x rest = drop_front front x rest

length_front : (front : List ℕ) (x : ℕ) (rest : List ℕ) → length front < length (front ++ x ∷ rest)
length_front [] x rest = omega arith
length_front (y ∷ front) x rest = omega (arith, length_front front x rest)

-- the records are cut behind place k
abbrev CutAt : List ℕ → ℕ → ℕ → List ℕ → ℕ → Type 0
CutAt page slot n records k =
    (records ≡ take k records ++ slot_at page slot ∷ drop (suc k) records) × IsGroup page slot (take k records)
    × Cuts page (slot + 1) n (drop (suc k) records)

cut_at : (page : List ℕ) (slot n : ℕ) (records front rest : List ℕ) → records ≡ front ++ slot_at page slot ∷ rest
    → IsGroup page slot front → Cuts page (slot + 1) n rest
    → (k : ℕ) × (k < length records) × CutAt page slot n records k
cut_at page slot n records front rest is group more =
    let x = slot_at page slot in
    let first : take (length front) records ≡ front = ap (λ (l : List ℕ). take (length front) l) is
    ∙ take_front front x rest in
    let second : drop (suc (length front)) records ≡ rest = ap (λ (l : List ℕ). drop (suc (length front)) l) is
    ∙ drop_front front x rest in
    let inside : length front < length records =
    subst (λ (l : List ℕ). length front < length l) (sym is) (length_front front x rest) in (
      length front,
      inside,
      (
        is ∙ sym (ap (λ (l : List ℕ). l ++ x ∷ drop (suc (length front)) records) first
            ∙ ap (λ (l : List ℕ). front ++ x ∷ l) second),
        subst (IsGroup page slot) (sym first) group,
        subst (Cuts page (slot + 1) n) (sym second) more,
      ),
    )

cuts_decided : (page : List ℕ) (slot n : ℕ) (records : List ℕ) → IsDecided (Cuts page slot n records)
cuts_decided page slot zero records = text_decided records []
cuts_decided page slot (suc n) records =
    same_decided
    (λ h. (take h.0 records, drop (suc h.0) records, h.2.0, h.2.1, h.2.2))
    (λ h. cut_at page slot n records h.0 h.1 h.2 h.3 h.4)
    (some_decided (CutAt page slot n records)
    (λ k. three_decided (text_decided records (take k records ++ slot_at page slot ∷ drop (suc k) records))
    (group_decided page slot (take k records)) (cuts_decided page (slot + 1) n (drop (suc k) records)))
    (length records))

pub directory_decided : (page chain : List ℕ) → IsDecided (IsDirectory page chain)
directory_decided page chain =
    same_decided (λ h. record { first = h.0; last = h.1; cut = h.2 }) (λ h. (h.first, h.last, h.cut))
    (three_decided (number_decided (slot_at page 0) infimum)
    (number_decided (slot_at page (slot_count page - 1)) supremum)
    (cuts_decided page 0 (slot_count page) (infimum ∷ chain ++ supremum ∷ [])))

-- records
pub record_kinds : (page : List ℕ) (leaf : Bool) (records : List ℕ) → IsDecided (All (HasKind page leaf) records)
record_kinds page leaf records = all_decided (HasKind page leaf) (λ origin. number_decided _ _) records

field_spelled : (page : List ℕ) (origin : ℕ) (fields : Fields) (i : ℕ) → IsDecided (FieldIsSpelled page origin fields i)
field_spelled page origin fields i =
    same_decided (λ h. record { shortest = h.0; leaves = h.1; refers = h.2 }) (λ h. (h.shortest, h.leaves, h.refers))
    (three_decided
    (given_decided (truth_decided (has_long_length page origin fields i) true)
    (given_decided (truth_decided (is_external page origin fields i) false)
    (most_decided 128 (local_length page origin fields i))))
    (given_decided (truth_decided (is_external page origin fields i) true)
    (truth_decided (field_at fields i).may_leave true))
    (given_decided (truth_decided (is_external page origin fields i) true)
    (most_decided 20 (local_length page origin fields i))))

record_spelled : (page : List ℕ) (fields : Fields) (origin : ℕ) → IsDecided (IsSpelled page origin fields)
record_spelled page fields origin =
    same_decided (λ h. record { room = h.0; each = h.1 }) (λ h. (h.room, h.each))
    (both_decided (most_decided (120 + head_length page origin fields) origin)
    (every_decided (FieldIsSpelled page origin fields) (field_spelled page origin fields) (field_count fields)))

pub spelled_decided : (page : List ℕ) (fields : Fields) (records : List ℕ)
    → IsDecided (All (λ origin. IsSpelled page origin fields) records)
spelled_decided page fields records =
    all_decided (λ origin. IsSpelled page origin fields) (record_spelled page fields) records

room_decided : (page : List ℕ) (fields : Fields) (origin : ℕ) → IsDecided (HasRoom page fields origin)
room_decided page fields origin =
    same_decided (λ h. record { least = h.0; most = h.1 }) (λ h. (h.least, h.most))
    (both_decided (most_decided 120 (record_start page origin fields))
    (most_decided (record_end page origin fields) (heap_top page)))

pub apart_decided : (page : List ℕ) (fields : Fields) (records : List ℕ) → IsDecided (LieApart page fields records)
apart_decided page fields records =
    same_decided (λ h. record { within = h.0; apart = h.1 }) (λ h. (h.within, h.apart))
    (both_decided (all_decided (HasRoom page fields) (room_decided page fields) records)
    (pairs_decided (AreApart page fields)
    (λ a b. either_decided (most_decided (record_end page a fields) (record_start page b fields))
    (most_decided (record_end page b fields) (record_start page a fields))) records))

pub empty_decided : (leaf root : Bool) (chain : List ℕ) → IsDecided (MayBeEmpty leaf root chain)
empty_decided leaf root chain =
    given_decided (number_decided (length chain) 0) (both_decided (truth_decided leaf true) (truth_decided root true))

-- keys
abbrev is_less : Ordering → Bool
is_less Less = true
is_less Equal = false
is_less Greater = false

abbrev is_equal : Ordering → Bool
is_equal Less = false
is_equal Equal = true
is_equal Greater = false

less_decided : (o : Ordering) → IsDecided (o ≡ Less)
less_decided Less = inl refl
less_decided Equal = inr (λ e. false≢true (ap is_less e))
less_decided Greater = inr (λ e. false≢true (ap is_less e))

equal_decided : (o : Ordering) → IsDecided (o ≡ Equal)
equal_decided Less = inr (λ e. false≢true (ap is_equal e))
equal_decided Equal = inl refl
equal_decided Greater = inr (λ e. false≢true (ap is_equal e))

pub key_below : (fields : Fields) (a b : Key) → IsDecided (IsBelow (key_kinds fields) a b)
key_below fields a b = less_decided (key_cmp (key_kinds fields) a b)

pub keys_equal : (fields : Fields) (a b : Key) → IsDecided (AreEqualKeys (key_kinds fields) a b)
keys_equal fields a b = equal_decided (key_cmp (key_kinds fields) a b)

rise_decided : (page : List ℕ) (fields : Fields) (lowest_first : Bool) (k here next : ℕ)
    → IsDecided (IsRise page fields lowest_first k here next)
rise_decided page fields lowest_first k here next =
    either_decided (both_decided (number_decided k 0) (truth_decided lowest_first true))
    (key_below fields (key_of page here fields) (key_of page next fields))

pub keys_rise : (page : List ℕ) (fields : Fields) (lowest_first : Bool) (chain : List ℕ)
    → IsDecided (KeysRise page fields lowest_first chain)
keys_rise page fields lowest_first chain =
    same_decided (λ h k below. h k (omega (arith, below))) (λ h k below. h k (omega (arith, below)))
    (every_decided (λ k. IsRise page fields lowest_first k (get_or chain k 0) (get_or chain (k + 1) 0))
    (λ k. rise_decided page fields lowest_first k (get_or chain k 0) (get_or chain (k + 1) 0)) (length chain - 1))
