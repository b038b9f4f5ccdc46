-- The numbers of a packed page, its infimum and its supremum.
use Rattle.std.proofs.Common.{◌≡◌, ℕ, ◌+◌, ◌*◌, ◌/◌, ◌%◌, ◌<◌, ◌≤◌, List, [], ◌∷◌, ◌++◌, length, get_or, codes}
use Rattle.std.proofs.Common.{slice_range, slice_index, Option, refl, sym, ap, ◌∙◌, arith, lit≤, lit<}
use Rattle.std.proofs.lemmas.List.{same_lists, get_or_default}
use Rattle.std.proofs.lemmas.List.Edits.{get_or-between, length-between}
use Rattle.page_source.specs.Pages.{num}
use Rattle.compact_record.specs.Header.{next_field, heap_number, status_of, owned_by}
use Rattle.index_page.specs.Header.{infimum, supremum, slot_count, heap_top, heap_field, first_free}
use Rattle.index_page.specs.Header.{record_count}
use Rattle.index_page.specs.Page.{HasHeader, HasEnds}
use Rattle.page_packer.specs.declared.packer.Heads.{Heads}
use Rattle.page_packer.specs.Packing.{Pushed, Packing, slots_for, total_size, page_header, end_bytes, origin_at}
use Rattle.page_packer.specs.Packing.{next_between, owned_by_supremum}
use Rattle.page_packer.proofs.PagePieces.{HasPieces, header_num, end_num, length-end_bytes}
use Rattle.page_packer.proofs.Sizes.{slots_least, supremum_most}

slots_in : (packing : Packing) (index_id : ℕ) (heads : Option Heads) → slots_for (length packing.records) < 65536
    → num (page_header packing index_id heads) 0 2 ≡ slots_for (length packing.records)
unfolding page_header num
slots_in packing index_id heads fits = omega arith

top_in : (packing : Packing) (index_id : ℕ) (heads : Option Heads) → 120 + total_size packing.records < 65536
    → num (page_header packing index_id heads) 2 2 ≡ 120 + total_size packing.records
unfolding page_header num
top_in packing index_id heads fits = omega arith

heap_in : (packing : Packing) (index_id : ℕ) (heads : Option Heads) → length packing.records + 2 < 32768
    → num (page_header packing index_id heads) 4 2 ≡ 32768 + (length packing.records + 2)
unfolding page_header num
heap_in packing index_id heads fits = omega arith

free_in : (packing : Packing) (index_id : ℕ) (heads : Option Heads) → num (page_header packing index_id heads) 6 2 ≡ 0
unfolding page_header num
free_in packing index_id heads = refl

count_in : (packing : Packing) (index_id : ℕ) (heads : Option Heads) → length packing.records < 65536
    → num (page_header packing index_id heads) 16 2 ≡ length packing.records
unfolding page_header num
count_in packing index_id heads fits = omega arith

-- how many records there may be: each slot is for at least four
pub few_records : (n : ℕ) → 2 * slots_for n ≤ 16256 → n + 2 < 32768
few_records n fits = omega arith

-- the numbers of the header
pub record HeaderNumbers (page : List ℕ) (packing : Packing) : Type 0 where
  pub slots : slot_count page ≡ slots_for (length packing.records)
  pub top : heap_top page ≡ 120 + total_size packing.records
  pub heap : heap_field page ≡ 32768 + (length packing.records + 2)
  pub free : first_free page ≡ 0
  pub count : record_count page ≡ length packing.records

pub header_numbers : (page : List ℕ) (packing : Packing) (index_id : ℕ) (heads : Option Heads)
    → HasPieces page packing index_id heads → HeaderNumbers page packing
header_numbers page packing index_id heads has =
    let fits = has.fits in
    let few = few_records (length packing.records) (omega arith) in
    record {
      slots = header_num page packing index_id heads 38 0 2 has (lit≤ tt) refl
          ∙ slots_in packing index_id heads (omega arith);
      top = header_num page packing index_id heads 40 2 2 has (lit≤ tt) refl
          ∙ top_in packing index_id heads (omega arith);
      heap = header_num page packing index_id heads 42 4 2 has (lit≤ tt) refl
          ∙ heap_in packing index_id heads few;
      free = header_num page packing index_id heads 44 6 2 has (lit≤ tt) refl ∙ free_in packing index_id heads;
      count = header_num page packing index_id heads 54 16 2 has (lit≤ tt) refl
          ∙ count_in packing index_id heads (omega arith);
    }

pub has_header : (page : List ℕ) (packing : Packing) → HeaderNumbers page packing
    → 120 + total_size packing.records + 2 * slots_for (length packing.records) ≤ 16376 → HasHeader page
has_header page packing is fits =
    let slots = is.slots in
    let top = is.top in
    let heap = is.heap in
    let count = is.count in
    let few = few_records (length packing.records) (omega arith) in
    record {
      slots = omega (arith, slots, slots_least (length packing.records));
      top_least = omega arith;
      top_most = omega arith;
      compact = omega arith;
      heap = omega arith;
    }

-- eight bytes of the two ends
text_at : (page : List ℕ) (packing : Packing) (index_id : ℕ) (heads : Option Heads) (at i : ℕ)
    → HasPieces page packing index_id heads → i + 8 ≤ 26 → at ≡ 94 + i
    → slice_range page at (at + 8) ≡ slice_range (end_bytes packing.records) i (i + 8)
text_at page packing index_id heads at i has inside place =
    let ends : List ℕ = end_bytes packing.records in
    let long = has.long in
    let size : length ends ≡ 26 = length-end_bytes packing.records in
    let a : length (slice_range page at (at + 8)) ≡ 8 =
    omega (arith, length-between page at (at + 8) (omega arith)) in
    let b : length (slice_range ends i (i + 8)) ≡ 8 = omega (arith, length-between ends i (i + 8) (omega arith)) in
    same_lists (slice_range page at (at + 8)) (slice_range ends i (i + 8)) (a ∙ sym b)
    (λ k d below.
    let few : k < 8 = omega (arith, a) in
    let there : at + k ≡ 94 + (i + k) = omega arith in
    get_or-between page at (at + 8) k d (omega arith) ∙ get_or_default page (at + k) d 0 (omega arith)
    ∙ ap (λ (n : ℕ). slice_index page n) there ∙ has.ends (i + k) (omega arith)
    ∙ get_or_default ends (i + k) 0 d (omega arith)
    ∙ sym (get_or-between ends i (i + 8) k d (omega arith)))

infimum_in : (records : List Pushed) → slice_range (end_bytes records) 5 13 ≡ codes "infimum" ++ 0 ∷ []
unfolding end_bytes
infimum_in records = refl

supremum_in : (records : List Pushed) → slice_range (end_bytes records) 18 26 ≡ codes "supremum"
unfolding end_bytes
supremum_in records = refl

infimum_heap_in : (records : List Pushed) → num (end_bytes records) 1 2 ≡ 2
unfolding end_bytes num
infimum_heap_in records = refl

supremum_heap_in : (records : List Pushed) → num (end_bytes records) 14 2 ≡ 11
unfolding end_bytes num
supremum_heap_in records = refl

supremum_next_in : (records : List Pushed) → num (end_bytes records) 16 2 ≡ 0
unfolding end_bytes num
supremum_next_in records = refl

infimum_next_in : (records : List Pushed) → next_between infimum (origin_at records 0) < 65536
    → num (end_bytes records) 3 2 ≡ next_between infimum (origin_at records 0)
unfolding end_bytes num
infimum_next_in records fits = omega arith

byte_in : (records : List Pushed) → (get_or (end_bytes records) 0 0 ≡ 1) × (get_or (end_bytes records) 2 0 ≡ 2)
    × (get_or (end_bytes records) 13 0 ≡ owned_by_supremum (length records)) × (get_or (end_bytes records) 15 0 ≡ 11)
unfolding end_bytes
byte_in records = (refl, refl, refl, refl)

-- the two ends
pub record EndFacts (page : List ℕ) (records : List Pushed) : Type 0 where
  pub has_ends : HasEnds page
  pub first : next_field page infimum ≡ next_between infimum (origin_at records 0)
  pub infimum_owns : owned_by page infimum ≡ 1
  pub supremum_owns : owned_by page supremum ≡ owned_by_supremum (length records)

pub end_facts : (page : List ℕ) (packing : Packing) (index_id : ℕ) (heads : Option Heads)
    → HasPieces page packing index_id heads → next_between infimum (origin_at packing.records 0) < 65536
    → EndFacts page packing.records
unfolding heap_number status_of owned_by
end_facts page packing index_id heads has fits =
    let records = packing.records in
    let bytes = byte_in records in
    let few = supremum_most (length records) in
    let own : slice_index page 94 ≡ 1 = has.ends 0 (lit< tt) ∙ bytes.0 in
    let kind : slice_index page 96 ≡ 2 = has.ends 2 (lit< tt) ∙ bytes.1 in
    let last : slice_index page 107 ≡ owned_by_supremum (length records) = has.ends 13 (lit< tt) ∙ bytes.2 in
    let end : slice_index page 109 ≡ 11 = has.ends 15 (lit< tt) ∙ bytes.3 in
    record {
      has_ends = record {
        infimum_text = text_at page packing index_id heads 99 5 has (lit≤ tt) refl ∙ infimum_in records;
        supremum_text = text_at page packing index_id heads 112 18 has (lit≤ tt) refl ∙ supremum_in records;
        infimum_heap = ap (λ (n : ℕ). n / 8)
            (end_num page packing index_id heads 95 1 2 has (lit≤ tt) refl ∙ infimum_heap_in records);
        supremum_heap = ap (λ (n : ℕ). n / 8)
            (end_num page packing index_id heads 108 14 2 has (lit≤ tt) refl ∙ supremum_heap_in records);
        infimum_status = ap (λ (n : ℕ). n % 8) kind;
        supremum_status = ap (λ (n : ℕ). n % 8) end;
        last = end_num page packing index_id heads 110 16 2 has (lit≤ tt) refl ∙ supremum_next_in records;
      };
      first = end_num page packing index_id heads 97 3 2 has (lit≤ tt) refl ∙ infimum_next_in records fits;
      infimum_owns = ap (λ (n : ℕ). n % 16) own;
      supremum_owns = ap (λ (n : ℕ). n % 16) last ∙ omega arith;
    }
