-- What is read of one record of a packed page.
use Rattle.std.proofs.Common.{◌≡◌, ◌≢◌, ℕ, ◌+◌, ◌-◌, ◌*◌, ◌%◌, ◌<◌, ◌≤◌, ◌==◌, Bool, false, ◌&&◌, nat_le}
use Rattle.std.proofs.Common.{List, length, get_or, take, slice_index, if◌then◌else◌, Option, refl, sym, ap}
use Rattle.std.proofs.Common.{◌∙◌, subst, arith, inl, inr, eq-eqb}
use Rattle.std.proofs.lemmas.Bool.{cases_lt, cond_both, ne_eqb, cond-false, cond-true, and_right, and_from, le-leb}
use Rattle.std.proofs.lemmas.Bool.{lt-leb}
use Rattle.page_source.specs.Pages.{num}
use Rattle.page_source.proofs.Written.{num_from_bytes}
use Rattle.column_values.specs.Types.{Fields, AreFields}
use Rattle.compact_record.specs.Header.{next_field, next_origin, heap_number, status_of, owned_by, is_minimum}
use Rattle.compact_record.specs.Header.{is_deleted}
use Rattle.compact_record.specs.Reading.{record_start, record_end}
use Rattle.compact_record.specs.Writing.{FitFields, StandsAt, record_bytes, origin_in, size_of_record, bytes_below}
use Rattle.compact_record.specs.Writing.{header_bytes}
use Rattle.compact_record.specs.Laws.{AreReadAs}
use Rattle.compact_record.proofs.ReadParts.{reads_what_stands}
use Rattle.compact_record.proofs.Placed.{stands_from, origin_is, size_is, length-record_bytes, record_header}
use Rattle.compact_record.proofs.Placed.{heap_from, info_from}
use Rattle.page_packer.specs.declared.packer.Heads.{Heads}
use Rattle.page_packer.specs.Packing.{Pushed, Packing, IsWhole, AreWhole, slots_for, total_size, pushed_at, start_of}
use Rattle.page_packer.specs.Packing.{origin_at, linked}
use Rattle.page_packer.specs.Packing.{linked_bytes, owned_at, next_between, next_of_record, is_leaf, status_on}
use Rattle.page_packer.specs.Packing.{pushed_record}
use Rattle.page_packer.specs.Entries.{Entry, entry_at}
use Rattle.page_packer.proofs.Packed.{ArePushed}
use Rattle.page_packer.proofs.Sizes.{start_more, start_all, start_is, start_none, starts_rise}
use Rattle.page_packer.proofs.Sizes.{origin_in_page, origin_behind, linked_below, linked_info, linked_heap}
use Rattle.page_packer.proofs.Sizes.{linked_next, linked_values, heap_at}
use Rattle.page_packer.proofs.PagePieces.{HasPieces}

-- what was pushed is this entry as record k
pub record IsPushedAs (fields : Fields) (level : ℕ) (minimum : Bool) (k : ℕ) (entry : Entry) (pushed : Pushed)
    : Type 0 where
  pub bytes : pushed.bytes ≡ record_bytes fields entry (2 + k) (status_on level) minimum
  pub origin : pushed.origin ≡ origin_in fields entry

pub pushed_as : (fields : Fields) (level : ℕ) (minimum : Bool) (k : ℕ) (entry : Entry) (pushed : Pushed)
    → pushed ≡ pushed_record level k fields entry minimum → IsPushedAs fields level minimum k entry pushed
unfolding pushed_record
pushed_as fields level minimum k entry pushed is =
    record { bytes = ap (λ (r : Pushed). r.bytes) is; origin = ap (λ (r : Pushed). r.origin) is }

-- what was pushed as an entry has its origin behind its header
pub whole_of : (fields : Fields) (level : ℕ) (minimum : Bool) (k : ℕ) (entry : Entry) (pushed : Pushed)
    → IsPushedAs fields level minimum k entry pushed → IsWhole pushed
whole_of fields level minimum k entry pushed is =
    let long : length pushed.bytes ≡ size_of_record fields entry =
    ap length is.bytes ∙ length-record_bytes fields entry (2 + k) (status_on level) minimum in
    let size = size_is fields entry in
    let place = is.origin ∙ origin_is fields entry in
    record { least = omega arith; most = omega arith }

pub are_whole : (fields : Fields) (level : ℕ) (marks : ℕ → Bool) (entries : List Entry) (records : List Pushed)
    → ArePushed fields level marks entries records → AreWhole records
are_whole fields level marks entries records are =
    let count = are.count in
    record {
      each = λ k below.
          whole_of fields level (marks k) k (entry_at entries k) (pushed_at records k)
          (pushed_as fields level (marks k) k (entry_at entries k) (pushed_at records k)
          (are.each k (omega arith)));
    }

-- how the records lie on the page
pub record AreLaid (records : List Pushed) : Type 0 where
  pub whole : AreWhole records
  pub fits : 120 + total_size records ≤ 16376

-- the next record begins behind this one
pub start_behind : (records : List Pushed) (k : ℕ) → AreLaid records → k < length records
    → (start_of records k + length (pushed_at records k).bytes ≤ 120 + total_size records)
    × (120 ≤ start_of records k)
start_behind records k laid below =
    let more = start_more records k below in
    let all = start_all records in
    let none = start_none records in (
      omega (arith, more, all, starts_rise records (k + 1) (length records) (omega arith)),
      omega (arith, none, starts_rise records 0 k (omega arith)),
    )

pub record OriginFacts (records : List Pushed) (k : ℕ) : Type 0 where
  pub least : start_of records k + 5 ≤ origin_at records k
  pub most : origin_at records k ≤ start_of records k + length (pushed_at records k).bytes
  pub first : 120 ≤ start_of records k
  pub last : start_of records k + length (pushed_at records k).bytes ≤ 120 + total_size records
  pub on_page : 120 + total_size records ≤ 16376

pub origin_facts : (records : List Pushed) (k : ℕ) → AreLaid records → k < length records → OriginFacts records k
origin_facts records k laid below =
    let whole = laid.whole.each k below in
    let least = whole.least in
    let most = whole.most in
    let place = origin_in_page records k below in
    let behind = start_behind records k laid below in
    record {
      least = omega arith;
      most = omega arith;
      first = behind.1;
      last = behind.0;
      on_page = laid.fits;
    }

-- origins rise
pub origins_rise : (records : List Pushed) (i j : ℕ) → AreLaid records → i < j → j < length records
    → origin_at records i < origin_at records j
origins_rise records i j laid before below =
    let a = origin_facts records i laid (omega arith) in
    let b = origin_facts records j laid below in
    let most = a.most in
    let least = b.least in
    let more = start_more records i (omega arith) in
    omega (arith, starts_rise records (i + 1) j (omega arith))

-- any of them lies on the page
pub origin_fits : (records : List Pushed) (k : ℕ) → AreLaid records → origin_at records k ≤ 16376
origin_fits records k laid =
    elim (cases_lt k (length records)) [
      | inl below ↦
          let is = origin_facts records k laid below in
          let most = is.most in
          let last = is.last in
          let on_page = is.on_page in
          omega arith
      | inr past ↦ omega (arith, origin_behind records k past)
    ]

-- a record and the one behind it have different origins
pub origins_differ : (records : List Pushed) (k : ℕ) → AreLaid records → k < length records
    → origin_at records k ≢ origin_at records (k + 1)
origins_differ records k laid below same =
    let is = origin_facts records k laid below in
    let least = is.least in
    let first = is.first in
    elim (cases_lt (k + 1) (length records)) [
      | inl more ↦ omega (arith, origins_rise records k (k + 1) laid (omega arith) more)
      | inr past ↦ omega (arith, origin_behind records (k + 1) past)
    ]

pub next_fits : (from to : ℕ) → next_between from to < 65536
unfolding next_between
next_fits from to = omega arith

-- the next field leads there
pub leads_to : (page : List ℕ) (from to : ℕ) → next_field page from ≡ next_between from to → from < 16384 → to < 16384
    → from ≢ to → next_origin page from ≡ to
unfolding next_origin next_between
leads_to page from to is from_fits to_fits differ =
    let some : (65536 + to - from) % 65536 ≢ 0 = λ none. differ (omega arith) in
    let target : (from + (65536 + to - from) % 65536) % 16384 ≡ to = omega arith in
    let test : ((65536 + to - from) % 65536 == 0) ≡ false = ne_eqb _ _ some in
    rw (is, test) target

-- owner counts
pub owned_none : (n k : ℕ) → (k + 1) % 4 ≢ 0 → owned_at n k ≡ 0
unfolding owned_at
owned_none n k other =
    let test : ((k + 1) % 4 == 0) ≡ false = ne_eqb _ _ other in
    rw test refl

pub owned_past : (n k : ℕ) → 4 * (slots_for n - 2) < k + 1 → owned_at n k ≡ 0
unfolding owned_at
owned_past n k past =
    let test : nat_le (k + 1) (4 * (slots_for n - 2)) ≡ false = lt-leb (k + 1) (4 * (slots_for n - 2)) past in
    cond-false ((k + 1) % 4 == 0 && nat_le (k + 1) (4 * (slots_for n - 2))) 4 0
    (and_right ((k + 1) % 4 == 0) (nat_le (k + 1) (4 * (slots_for n - 2))) test)

pub owned_four : (n k : ℕ) → (k + 1) % 4 ≡ 0 → k + 1 ≤ 4 * (slots_for n - 2) → owned_at n k ≡ 4
unfolding owned_at
owned_four n k fourth most =
    cond-true ((k + 1) % 4 == 0 && nat_le (k + 1) (4 * (slots_for n - 2))) 4 0
    (and_from ((k + 1) % 4 == 0) (nat_le (k + 1) (4 * (slots_for n - 2))) (eq-eqb _ _ fourth)
    (le-leb (k + 1) (4 * (slots_for n - 2)) most))

owned_small : (n k : ℕ) → owned_at n k < 16
unfolding owned_at
owned_small n k =
    cond_both ((k + 1) % 4 == 0 && nat_le (k + 1) (4 * (slots_for n - 2))) 4 0 (λ (m : ℕ). m < 16)
    (λ is. omega arith) (λ is. omega arith)

status_small : (level : ℕ) → status_on level < 8
status_small level = cond_both (is_leaf level) 0 1 (λ (m : ℕ). m < 8) (λ is. omega arith) (λ is. omega arith)

-- a byte of record k on the page
byte_here : (page : List ℕ) (packing : Packing) (index_id : ℕ) (heads : Option Heads) (k j : ℕ)
    → HasPieces page packing index_id heads → AreLaid packing.records → k < length packing.records
    → j < length (pushed_at packing.records k).bytes
    → slice_index page (start_of packing.records k + j) ≡ get_or (linked_bytes packing.records k) j 0
byte_here page packing index_id heads k j has laid below inside =
    let records = packing.records in
    let start = start_is records k in
    let behind = start_behind records k laid below in
    let place : start_of records k + j ≡ 120 + (total_size (take k records) + j) = omega arith in
    ap (λ (n : ℕ). slice_index page n) place ∙ has.heap (total_size (take k records) + j) (omega (arith, behind.0))
    ∙ heap_at records k j laid.whole below inside

-- an entry that stands on a page as one of its records
pub record EntryStands (page : List ℕ) (fields : Fields) (entry : Entry) (origin start heap kind owned next : ℕ)
    (minimum : Bool) : Type 0 where
  pub read : AreReadAs page origin fields entry
  pub starts : record_start page origin fields ≡ start
  pub ends : record_end page origin fields ≡ start + size_of_record fields entry
  pub number : heap_number page origin ≡ heap
  pub status : status_of page origin ≡ kind
  pub owns : owned_by page origin ≡ owned
  pub mark : is_minimum page origin ≡ minimum
  pub live : is_deleted page origin ≡ false
  pub leads : next_field page origin ≡ next

pub entry_stands : (page : List ℕ) (packing : Packing) (index_id : ℕ) (heads : Option Heads) (fields : Fields)
    (minimum : Bool) (entry : Entry) (k : ℕ)
    → HasPieces page packing index_id heads → AreLaid packing.records → k < length packing.records
    → AreFields fields → FitFields fields entry
    → IsPushedAs fields packing.level minimum k entry (pushed_at packing.records k)
    → EntryStands page fields entry (origin_at packing.records k) (start_of packing.records k) (2 + k)
    (status_on packing.level) (owned_at (length packing.records) k) (next_of_record packing.records k)
    minimum
entry_stands page packing index_id heads fields minimum entry k has laid below are fit is =
    let records = packing.records in
    let r : Pushed = pushed_at records k in
    let kind : ℕ = status_on packing.level in
    let owned : ℕ = owned_at (length records) k in
    let next : ℕ = next_of_record records k in
    let bytes : List ℕ = record_bytes fields entry (2 + k) kind minimum in
    let start : ℕ = start_of records k in
    let o : ℕ = origin_at records k in
    let b : ℕ = length (bytes_below fields entry) in
    let whole : IsWhole r = laid.whole.each k below in
    let facts = origin_facts records k laid below in
    let first = facts.first in
    let last = facts.last in
    let on_page = facts.on_page in
    let long = has.long in
    let same : r.bytes ≡ bytes = is.bytes in
    let size : length r.bytes ≡ size_of_record fields entry =
    ap length same ∙ length-record_bytes fields entry (2 + k) kind minimum in
    let sizes = size_is fields entry in
    let place : r.origin ≡ b + 5 = is.origin ∙ origin_is fields entry in
    let there : o ≡ start + r.origin = origin_in_page records k below in
    let here : o ≡ start + origin_in fields entry = there ∙ ap (λ (n : ℕ). start + n) is.origin in
    let byte : (j : ℕ) → j < length r.bytes → slice_index page (start + j) ≡ get_or (linked r owned next) j 0 =
    λ j inside. byte_here page packing index_id heads k j has laid below inside in
    let kept : (j : ℕ) → get_or r.bytes j 0 ≡ get_or bytes j 0 = λ j. ap (λ (xs : List ℕ). get_or xs j 0) same in
    let stands : StandsAt page (start + origin_in fields entry) fields entry =
    stands_from page start fields entry (2 + k) kind minimum are fit first
    (record {
      inside = omega arith;
      below = λ j inside.
          byte j (omega arith) ∙ linked_below r owned next j whole (omega arith) ∙ kept j;
      values = λ j inside.
          byte (b + 5 + j) (omega arith) ∙ linked_values r owned next (b + 5 + j) whole (omega arith)
          ∙ kept (b + 5 + j);
    }) in
    let read : AreReadAs page o fields entry =
    subst (λ (n : ℕ). AreReadAs page n fields entry) (sym here)
    (reads_what_stands page (start + origin_in fields entry) fields entry stands) in
    let head : (j : ℕ) → j < 5 → get_or bytes (b + j) 0 ≡ get_or (header_bytes (2 + k) kind minimum) j 0 =
    λ j inside. record_header fields entry (2 + k) kind minimum j inside in
    let e0 : r.origin - 5 ≡ b + 0 = omega arith in
    let info_byte : slice_index page (o - 5) ≡ (if minimum then 16 else 0) + owned =
    ap (λ (n : ℕ). slice_index page n) (let e : o - 5 ≡ start + (r.origin - 5) = omega arith in e)
    ∙ byte (r.origin - 5) (omega arith) ∙ linked_info r owned next whole
    ∙ ap (λ (n : ℕ). n + owned) (kept (r.origin - 5) ∙ ap (λ (n : ℕ). get_or bytes n 0) e0 ∙ head 0 (omega arith)) in
    let info = info_from page o owned minimum (owned_small (length records) k) info_byte in
    let middle : (j at : ℕ) → 1 ≤ j → j < 3 → at ≡ start + (b + j)
    → slice_index page at ≡ get_or (header_bytes (2 + k) kind minimum) j 0 =
    λ j at low high is_at.
    ap (λ (n : ℕ). slice_index page n) is_at ∙ byte (b + j) (omega arith)
    ∙ linked_heap r owned next (b + j) whole (omega arith) (omega arith) ∙ kept (b + j) ∙ head j (omega arith) in
    let number = heap_from page o (2 + k) kind (omega arith) (status_small packing.level)
    (middle 1 (o - 4) (omega arith) (omega arith) (omega arith))
    (middle 2 (o - 3) (omega arith) (omega arith) (omega arith)) in
    let fits : next < 65536 = next_fits o (origin_at records (k + 1)) in
    let leads : num page (o - 2) 2 ≡ next =
    num_from_bytes page (linked r owned next) (o - 2) (r.origin - 2) 2
    (λ i inside.
    ap (λ (n : ℕ). slice_index page n) (let e : o - 2 + i ≡ start + (r.origin - 2 + i) = omega arith in e)
    ∙ byte (r.origin - 2 + i) (omega arith))
    ∙ linked_next r owned next whole fits in
    record {
      read = read;
      starts = read.starts ∙ omega arith;
      ends = read.ends ∙ omega arith;
      number = number.0;
      status = number.1;
      owns = info.0;
      mark = info.1;
      live = info.2;
      leads = leads;
    }
