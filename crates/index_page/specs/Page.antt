-- What makes an index page (page0page, rem0rec).
use Rattle.std.specs.Prelude.{◌≡◌, ◌≢◌, ℕ, zero, suc, ◌+◌, ◌-◌, ◌*◌, ◌<◌, ◌≤◌, ◌⊎◌, ◌↔◌, Bool, true, ◌==◌, ◌&&◌, not}
use Rattle.std.specs.Prelude.{List, [], ◌∷◌, ◌++◌, length, map, All, AllPairs, codes, slice_index, slice_range}
use Rattle.std.specs.Prelude.{if◌then◌else◌}
use Rattle.page_source.specs.Lists.{AreDistinct}
use Rattle.column_values.specs.Types.{Fields}
use Rattle.column_values.specs.Order.{IsBelow}
use Rattle.compact_record.specs.Header.{next_field, next_origin, heap_number, status_of, owned_by, is_minimum}
use Rattle.compact_record.specs.Reading.{IsSpelled, record_start, record_end, key_of, key_kinds}
use Rattle.index_page.specs.Header.{infimum, supremum, slot_count, heap_top, heap_field, heap_count, first_free}
use Rattle.index_page.specs.Header.{record_count, slot_at, record_at, free_count}

-- the numbers of the header fit together
pub record HasHeader (page : List ℕ) : Type 0 where
  pub slots : 2 ≤ slot_count page
  pub top_least : 120 ≤ heap_top page
  pub top_most : heap_top page + 2 * slot_count page ≤ 16376
  pub compact : 32768 ≤ heap_field page
  pub heap : record_count page + 2 ≤ heap_count page

-- infimum and supremum are as they must be
pub record HasEnds (page : List ℕ) : Type 0 where
  pub infimum_text : slice_range page infimum (infimum + 8) ≡ codes "infimum" ++ 0 ∷ []
  pub supremum_text : slice_range page supremum (supremum + 8) ≡ codes "supremum"
  pub infimum_heap : heap_number page infimum ≡ 0
  pub supremum_heap : heap_number page supremum ≡ 1
  pub infimum_status : status_of page infimum ≡ 2
  pub supremum_status : status_of page supremum ≡ 3
  pub last : next_field page supremum ≡ 0

-- a record's fields may begin here: a record without a byte behind its header may begin them at the heap top
abbrev pub IsOrigin : List ℕ → ℕ → Type 0
IsOrigin page origin = (125 ≤ origin) × (origin ≤ heap_top page)

-- the fields of each of the n records from the first on may begin at its origin
abbrev pub AreOrigins : List ℕ → ℕ → ℕ → Type 0
AreOrigins page first n = (k : ℕ) → k < n → IsOrigin page (record_at page first k)

-- a heap number that a record may have
abbrev pub IsHeapNumber : List ℕ → ℕ → Type 0
IsHeapNumber page origin = (2 ≤ heap_number page origin) × (heap_number page origin < heap_count page)

-- each member's next field leads to the one behind it, from `start` to `end`
abbrev pub Leads : List ℕ → ℕ → List ℕ → ℕ → Type 0
Leads page start [] end = next_origin page start ≡ end
Leads page start (origin ∷ rest) end = (next_origin page start ≡ origin) × Leads page origin rest end

-- the records from the infimum to the supremum: different origins, as many as the header says
pub record IsChain (page : List ℕ) (chain : List ℕ) : Type 0 where
  pub counted : length chain ≡ record_count page
  pub origins : All (IsOrigin page) chain
  pub distinct : AllPairs (λ a b. a ≢ b) chain
  pub leads : Leads page infimum chain supremum

-- the free records, up to one with the next field 0
abbrev pub LeadsToEnd : List ℕ → ℕ → List ℕ → Type 0
LeadsToEnd page first [] = first ≡ 0
LeadsToEnd page first (origin ∷ []) = (first ≡ origin) × (next_field page origin ≡ 0)
LeadsToEnd page first (origin ∷ next ∷ rest) = (first ≡ origin) × LeadsToEnd page (next_origin page origin)
    (next ∷ rest)

-- whether the free list ends behind its first k records
unfoldable pub ends_after : List ℕ → ℕ → ℕ → Bool
ends_after page first zero = first == 0
ends_after page first (suc k) = next_field page (record_at page first k) == 0

-- the free records may stand where they do, and the last of them ends the list
pub record IsFreeWalk (page : List ℕ) : Type 0 where
  pub origins : AreOrigins page (first_free page) (free_count page)
  pub ends : ends_after page (first_free page) (free_count page) ≡ true

-- the free records, besides this chain
pub record IsFreeList (page : List ℕ) (chain free : List ℕ) : Type 0 where
  pub origins : All (IsOrigin page) free
  pub distinct : AreDistinct (chain ++ free)
  pub leads : LeadsToEnd page (first_free page) free
  pub all : length chain + length free + 2 ≡ heap_count page

-- each heap number from 2 on comes once
pub record HasHeapNumbers (page : List ℕ) (records : List ℕ) : Type 0 where
  pub within : All (IsHeapNumber page) records
  pub distinct : AreDistinct (map (heap_number page) records)

-- how large a slot's group may be
pub record HasGroupSize (slot size : ℕ) : Type 0 where
  pub first : slot ≡ infimum → size ≡ 1
  pub last : slot ≡ supremum → (1 ≤ size) × (size ≤ 8)
  pub other : slot ≢ infimum → slot ≢ supremum → (4 ≤ size) × (size ≤ 8)

-- the records that do not own, up to the one that a slot names: that one owns them and itself
pub record IsGroup (page : List ℕ) (slot : ℕ) (front : List ℕ) : Type 0 where
  pub unowned : All (λ origin. owned_by page origin ≡ 0) front
  pub owned : owned_by page (slot_at page slot) ≡ length front + 1
  pub size : HasGroupSize (slot_at page slot) (length front + 1)

-- slot number `slot` names this owner, which owns `size` records
pub record Closes (page : List ℕ) (slot size origin : ℕ) : Type 0 where
  pub within : slot < slot_count page
  pub named : slot_at page slot ≡ origin
  pub owned : owned_by page origin ≡ size
  pub fits : HasGroupSize origin size

-- the n slots from `slot` on cut the records into groups
abbrev pub Cuts : List ℕ → ℕ → ℕ → List ℕ → Type 0
Cuts page slot zero records = records ≡ []
Cuts page slot (suc n) records =
    (front : List ℕ) × (rest : List ℕ) × (records ≡ front ++ slot_at page slot ∷ rest) × IsGroup page slot front ×
    Cuts page (slot + 1) n rest

-- all slots cut the chain, its ends counted
abbrev pub IsCut : List ℕ → List ℕ → Type 0
IsCut page chain = Cuts page 0 (slot_count page) (infimum ∷ chain ++ supremum ∷ [])

-- the slots cut the chain, its ends counted, into groups; the first names the infimum and the last the supremum
pub record IsDirectory (page : List ℕ) (chain : List ℕ) : Type 0 where
  pub first : slot_at page 0 ≡ infimum
  pub last : slot_at page (slot_count page - 1) ≡ supremum
  pub cut : IsCut page chain

-- a record of a leaf, or a node pointer
abbrev pub HasKind : List ℕ → Bool → ℕ → Type 0
HasKind page leaf origin = status_of page origin ≡ (if leaf then 0 else 1)

-- the null bits and lengths of each record are spelled
abbrev pub AreSpelled : List ℕ → Fields → List ℕ → Type 0
AreSpelled page fields records = All (λ origin. IsSpelled page origin fields) records

-- a record lies between the supremum and the heap top
pub record HasRoom (page : List ℕ) (fields : Fields) (origin : ℕ) : Type 0 where
  pub least : 120 ≤ record_start page origin fields
  pub most : record_end page origin fields ≤ heap_top page

-- one of two records ends before the other begins
abbrev pub AreApart : List ℕ → Fields → ℕ → ℕ → Type 0
AreApart page fields a b = (record_end page a fields ≤ record_start page b fields) ⊎
    (record_end page b fields ≤ record_start page a fields)

-- the records lie there, apart from one another
pub record LieApart (page : List ℕ) (fields : Fields) (records : List ℕ) : Type 0 where
  pub within : All (HasRoom page fields) records
  pub apart : AllPairs (AreApart page fields) records

-- only the root of a tree without rows has no record
abbrev pub MayBeEmpty : Bool → Bool → List ℕ → Type 0
MayBeEmpty leaf root chain = length chain ≡ 0 → (leaf ≡ true) × (root ≡ true)

-- the first key of a leftmost page above the leaves counts as below every key
abbrev pub is_lowest_first : Bool → Bool → Bool
is_lowest_first leaf leftmost = leftmost && not leaf

-- record k has a lower key than the one behind it, or counts as below every key
abbrev pub IsRise : List ℕ → Fields → Bool → ℕ → ℕ → ℕ → Type 0
IsRise page fields lowest_first k here next =
    ((k ≡ 0) × (lowest_first ≡ true)) ⊎ IsBelow (key_kinds fields) (key_of page here fields) (key_of page next fields)

-- the keys rise strictly along the chain
abbrev pub KeysRise : List ℕ → Fields → Bool → List ℕ → Type 0
KeysRise page fields lowest_first chain =
    (k : ℕ) → k + 1 < length chain → IsRise page fields lowest_first k (slice_index chain k)
    (slice_index chain (k + 1))

-- a whole index page with these records
pub record IsIndexPage (page : List ℕ) (fields : Fields) (leaf root leftmost : Bool) (chain : List ℕ) : Type 0 where
  pub header : HasHeader page
  pub ends : HasEnds page
  pub is_chain : IsChain page chain
  pub free : List ℕ
  pub is_free : IsFreeList page chain free
  pub heap_numbers : HasHeapNumbers page (chain ++ free)
  pub directory : IsDirectory page chain
  pub kinds : All (HasKind page leaf) chain
  pub spelled : AreSpelled page fields (chain ++ free)
  pub room : LieApart page fields (chain ++ free)
  pub some_record : MayBeEmpty leaf root chain
  pub rise : KeysRise page fields (is_lowest_first leaf leftmost) chain

-- the first record of the leftmost page above the leaves has the minimum mark, and no other record
abbrev pub IsFirst : Bool → Bool → ℕ → Type 0
IsFirst leaf leftmost k = (k ≡ 0) × (is_lowest_first leaf leftmost ≡ true)

abbrev pub HasMarkAt : List ℕ → Bool → Bool → ℕ → ℕ → Type 0
HasMarkAt page leaf leftmost k origin = (is_minimum page origin ≡ true) ↔ IsFirst leaf leftmost k

abbrev pub HasMinimumMark : List ℕ → Bool → Bool → List ℕ → Type 0
HasMinimumMark page leaf leftmost chain = (k : ℕ) → k < length chain
    → HasMarkAt page leaf leftmost k (slice_index chain k)
