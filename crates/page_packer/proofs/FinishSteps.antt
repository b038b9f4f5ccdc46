-- A packed page that is written part by part.
use Rattle.std.proofs.Common.{◌≡◌, ℕ, ◌+◌, ◌-◌, ◌*◌, ◌<◌, ◌≤◌, List, [], ◌∷◌, ◌++◌, length}
use Rattle.std.proofs.Common.{get_or, take, drop, map, reverse, flat_map, replicate, codes, slice_index, Option}
use Rattle.std.proofs.Common.{refl, sym, ap, ◌∙◌, arith, inl, inr, length-append, append-nil}
use Rattle.std.proofs.Common.{append_assoc}
use Rattle.std.proofs.Math.Seq.{take_at, drop_at}
use Rattle.std.specs.List.{range_with_len}
use Rattle.std.proofs.lemmas.Bool.{cases_lt}
use Rattle.std.proofs.lemmas.List.{same_lists, take_more, take_all, length-reverse, length-take-le, get_or-reverse}
use Rattle.std.proofs.lemmas.List.{length-replicate, drop_more, drop_all}
use Rattle.std.proofs.lemmas.List.Concat.{flat_map-append}
use Rattle.std.proofs.lemmas.List.FromFn.{length-range_with_len, length-map-range_with_len}
use Rattle.std.proofs.lemmas.List.FromFn.{get_or-map-range_with_len}
use Rattle.page_source.specs.Pages.{be_bytes, with_bytes}
use Rattle.page_source.proofs.Written.{length-with_bytes, get_or-with_bytes_before, get_or-with_bytes_at}
use Rattle.page_source.proofs.Written.{get_or-with_bytes_after}
use Rattle.compact_record.proofs.WriteSteps.{written_more}
use Rattle.index_page.specs.Header.{infimum}
use Rattle.page_packer.specs.declared.packer.Heads.{Heads}
use Rattle.page_packer.specs.Packing.{Pushed, Packing, IsWhole, AreWhole, slots_for, total_size, start_of, origin_at}
use Rattle.page_packer.specs.Packing.{pushed_at, owned_at, next_of_record}
use Rattle.page_packer.specs.Packing.{owned_by_supremum, next_between, linked, linked_bytes}
use Rattle.page_packer.specs.Packing.{heap_bytes, slot_origin, directory_bytes, segment_header, head_bytes}
use Rattle.page_packer.specs.Packing.{header_numbers}
use Rattle.page_packer.specs.Packing.{page_header, end_bytes, page_beside, packed_page}
use Rattle.page_packer.specs.Filling.{unlinked_bytes}
use Rattle.page_packer.proofs.Sizes.{front_length, place_in_range, start_is, none_pushed, length-linked}
use Rattle.page_packer.proofs.Sizes.{pairs_length}
use Rattle.page_packer.proofs.PagePieces.{length-page_header, length-end_bytes, beside_length}

-- a write inside what was written just before
pub with_bytes-within : (page : List ℕ) (at : ℕ) (bytes : List ℕ) (i : ℕ) (piece : List ℕ)
    → at + length bytes ≤ length page → i + length piece ≤ length bytes
    → with_bytes (with_bytes page at bytes) (at + i) piece ≡ with_bytes page at (with_bytes bytes i piece)
with_bytes-within page at bytes i piece inside within =
    let first : List ℕ = with_bytes page at bytes in
    let inner : List ℕ = with_bytes bytes i piece in
    let a : length first ≡ length page = length-with_bytes page at bytes inside in
    let b : length inner ≡ length bytes = length-with_bytes bytes i piece within in
    let c : length (with_bytes first (at + i) piece) ≡ length first =
    length-with_bytes first (at + i) piece (omega arith) in
    let d : length (with_bytes page at inner) ≡ length page = length-with_bytes page at inner (omega arith) in
    same_lists (with_bytes first (at + i) piece) (with_bytes page at inner) (c ∙ a ∙ sym d)
    (λ k e below.
    elim (cases_lt k (at + i)) [
      | inl low ↦
          get_or-with_bytes_before first (at + i) piece k e (omega arith) low
          ∙ elim (cases_lt k at) [
            | inl before ↦
                get_or-with_bytes_before page at bytes k e (omega arith) before
                ∙ sym (get_or-with_bytes_before page at inner k e (omega arith) before)
            | inr behind ↦
                let j : ℕ = k - at in
                let place : at + j ≡ k = omega arith in
                ap (λ (n : ℕ). get_or first n e) (sym place)
                ∙ get_or-with_bytes_at page at bytes j e (omega arith) (omega arith)
                ∙ sym (get_or-with_bytes_before bytes i piece j e (omega arith) (omega arith))
                ∙ sym (get_or-with_bytes_at page at inner j e (omega arith) (omega arith))
                ∙ ap (λ (n : ℕ). get_or (with_bytes page at inner) n e) place
          ]
      | inr high ↦
          elim (cases_lt k (at + i + length piece)) [
            | inl inside' ↦
                let j : ℕ = k - (at + i) in
                let place : at + i + j ≡ k = omega arith in
                let place' : at + (i + j) ≡ k = omega arith in
                ap (λ (n : ℕ). get_or (with_bytes first (at + i) piece) n e) (sym place)
                ∙ get_or-with_bytes_at first (at + i) piece j e (omega arith) (omega arith)
                ∙ sym (get_or-with_bytes_at bytes i piece j e (omega arith) (omega arith))
                ∙ sym (get_or-with_bytes_at page at inner (i + j) e (omega arith) (omega arith))
                ∙ ap (λ (n : ℕ). get_or (with_bytes page at inner) n e) place'
            | inr past ↦
                get_or-with_bytes_after first (at + i) piece k e (omega arith) past
                ∙ elim (cases_lt k (at + length bytes)) [
                  | inl in' ↦
                      let j : ℕ = k - at in
                      let place : at + j ≡ k = omega arith in
                      ap (λ (n : ℕ). get_or first n e) (sym place)
                      ∙ get_or-with_bytes_at page at bytes j e (omega arith) (omega arith)
                      ∙ sym (get_or-with_bytes_after bytes i piece j e (omega arith) (omega arith))
                      ∙ sym (get_or-with_bytes_at page at inner j e (omega arith) (omega arith))
                      ∙ ap (λ (n : ℕ). get_or (with_bytes page at inner) n e) place
                  | inr out ↦
                      get_or-with_bytes_after page at bytes k e (omega arith) out
                      ∙ sym (get_or-with_bytes_after page at inner k e (omega arith) (omega arith))
                ]
          ]
    ])

-- the first byte of the header of a record that stands there
pub info_there : (page : List ℕ) (start origin : ℕ) (r : Pushed) → IsWhole r → start + length r.bytes ≤ length page
    → page ≡ with_bytes page start r.bytes → origin ≡ start + r.origin
    → slice_index page (origin - 5) ≡ slice_index r.bytes (r.origin - 5)
info_there page start origin r whole inside stands place =
    let least = whole.least in
    let most = whole.most in
    let there : origin - 5 ≡ start + (r.origin - 5) = omega arith in
    ap (λ (p : List ℕ). slice_index p (origin - 5)) stands
    ∙ ap (λ (n : ℕ). slice_index (with_bytes page start r.bytes) n) there
    ∙ get_or-with_bytes_at page start r.bytes (r.origin - 5) 0 (omega arith) (omega arith)

-- a record that stands there, linked in two steps
pub linked_put : (page second third : List ℕ) (start origin info owned next : ℕ) (r : Pushed) → IsWhole r
    → start + length r.bytes ≤ length page → page ≡ with_bytes page start r.bytes → origin ≡ start + r.origin
    → info ≡ slice_index page (origin - 5) + owned
    → second ≡ with_bytes page (origin - 5) (info ∷ [])
    → third ≡ with_bytes second (origin - 2) (be_bytes 2 next) → third ≡ with_bytes page start (linked r owned next)
unfolding linked
linked_put page second third start origin info owned next r whole inside stands place is e2 e3 =
    let least = whole.least in
    let most = whole.most in
    let at1 : origin - 5 ≡ start + (r.origin - 5) = omega arith in
    let at2 : origin - 2 ≡ start + (r.origin - 2) = omega arith in
    let byte : List ℕ = (slice_index r.bytes (r.origin - 5) + owned) ∷ [] in
    let owning : List ℕ = with_bytes r.bytes (r.origin - 5) byte in
    let long : length owning ≡ length r.bytes = length-with_bytes r.bytes (r.origin - 5) byte (omega arith) in
    let first = info_there page start origin r whole inside stands place in
    let info_is : info ≡ slice_index r.bytes (r.origin - 5) + owned = is ∙ ap (λ (n : ℕ). n + owned) first in
    let two : second ≡ with_bytes page start owning =
    e2 ∙ ap (λ (n : ℕ). with_bytes page (origin - 5) (n ∷ [])) info_is ∙ ap (λ (n : ℕ). with_bytes page n byte) at1
    ∙ ap (λ (p : List ℕ). with_bytes p (start + (r.origin - 5)) byte) stands
    ∙ with_bytes-within page start r.bytes (r.origin - 5) byte inside (omega arith) in
    e3 ∙ ap (λ (n : ℕ). with_bytes second n (be_bytes 2 next)) at2
    ∙ ap (λ (p : List ℕ). with_bytes p (start + (r.origin - 2)) (be_bytes 2 next)) two
    ∙ with_bytes-within page start owning (r.origin - 2) (be_bytes 2 next) (omega arith) (omega arith)

-- the records so far
abbrev pub records_so_far : List Pushed → ℕ → List ℕ
records_so_far records k = flat_map (linked_bytes records) (take k (range_with_len 0 (length records)))

pub records_more : (records : List Pushed) (k : ℕ) → k < length records
    → records_so_far records (k + 1) ≡ records_so_far records k ++ linked_bytes records k
records_more records k below =
    let range : List ℕ = range_with_len 0 (length records) in
    let place : get_or range k 0 ≡ k = place_in_range (length records) k below in
    ap (λ (ks : List ℕ). flat_map (linked_bytes records) ks)
    (take_more range k 0 (omega (arith, length-range_with_len 0 (length records))))
    ∙ flat_map-append (linked_bytes records) (take k range) (get_or range k 0 ∷ [])
    ∙ ap (λ (xs : List ℕ). records_so_far records k ++ xs) (append-nil (linked_bytes records (get_or range k 0)))
    ∙ ap (λ (i : ℕ). records_so_far records k ++ linked_bytes records i) place

pub records_all : (records : List Pushed) (k : ℕ) → length records ≤ k → records_so_far records k ≡ heap_bytes records
unfolding heap_bytes
records_all records k past =
    ap (λ (ks : List ℕ). flat_map (linked_bytes records) ks)
    (take_all k (range_with_len 0 (length records)) (omega (arith, length-range_with_len 0 (length records))))

-- a piece among others gives way to one of its length
pub replaced : (xs piece new ys : List ℕ) (at : ℕ) → at ≡ length xs → length new ≡ length piece
    → with_bytes (xs ++ piece ++ ys) at new ≡ xs ++ new ++ ys
unfolding with_bytes
replaced xs piece new ys at there same =
    let whole : List ℕ = xs ++ piece ++ ys in
    let front : take at whole ≡ xs =
    ap (λ (zs : List ℕ). take at zs) (append_assoc xs piece ys) ∙ take_at xs (piece ++ ys) at (sym there) in
    let back : drop (at + length new) whole ≡ ys =
    drop_at (xs ++ piece) ys (at + length new) (omega (arith, length-append xs piece, there, same)) in
    ap (λ (zs : List ℕ). zs ++ new ++ drop (at + length new) whole) front
    ∙ ap (λ (zs : List ℕ). xs ++ new ++ zs) back

-- so does a piece of what was written
piece_put : (page : List ℕ) (at place : ℕ) (xs piece new ys : List ℕ) → place ≡ at + length xs
    → length new ≡ length piece → at + length (xs ++ piece ++ ys) ≤ length page
    → with_bytes (with_bytes page at (xs ++ piece ++ ys)) place new ≡ with_bytes page at (xs ++ new ++ ys)
piece_put page at place xs piece new ys there same inside =
    let whole : List ℕ = xs ++ piece ++ ys in
    let size = length-append (xs ++ piece) ys in
    let front = length-append xs piece in
    ap (λ (n : ℕ). with_bytes (with_bytes page at whole) n new) there
    ∙ with_bytes-within page at whole (length xs) new inside (omega (arith, size, front, same))
    ∙ ap (λ (zs : List ℕ). with_bytes page at zs) (replaced xs piece new ys (length xs) refl same)

-- the records from record k on, as they were pushed
abbrev pub records_left : List Pushed → ℕ → List ℕ
records_left records k = unlinked_bytes (drop k records)

records_left_more : (records : List Pushed) (k : ℕ) → k < length records
    → records_left records k ≡ (pushed_at records k).bytes ++ records_left records (k + 1)
records_left_more records k below =
    ap (λ (rs : List Pushed). unlinked_bytes rs) (drop_more records k none_pushed below)

-- the heap where the first k records are linked
abbrev pub heap_so_far : List Pushed → ℕ → List ℕ
heap_so_far records k = records_so_far records k ++ records_left records k

heap_at : (records : List Pushed) (k : ℕ) → k < length records
    → heap_so_far records k
    ≡ records_so_far records k ++ (pushed_at records k).bytes ++ records_left records (k + 1)
heap_at records k below =
    ap (λ (xs : List ℕ). records_so_far records k ++ xs) (records_left_more records k below)
    ∙ sym (append_assoc (records_so_far records k) (pushed_at records k).bytes (records_left records (k + 1)))

heap_more : (records : List Pushed) (k : ℕ) → k < length records
    → heap_so_far records (k + 1)
    ≡ records_so_far records k ++ linked_bytes records k ++ records_left records (k + 1)
heap_more records k below =
    ap (λ (xs : List ℕ). xs ++ records_left records (k + 1)) (records_more records k below)

-- its size stays
heap_size : (records : List Pushed) (k : ℕ) → AreWhole records → k < length records
    → length (heap_so_far records (k + 1)) ≡ length (heap_so_far records k)
heap_size records k whole below =
    let xs : List ℕ = records_so_far records k in
    let r : Pushed = pushed_at records k in
    let ys : List ℕ = records_left records (k + 1) in
    let l : List ℕ = linked_bytes records k in
    omega (
      arith,
      ap length (heap_at records k below),
      ap length (heap_more records k below),
      length-append (xs ++ r.bytes) ys,
      length-append xs r.bytes,
      length-append (xs ++ l) ys,
      length-append xs l,
      length-linked r (owned_at (length records) k) (next_of_record records k) (whole.each k below),
    )

-- the page with the first k records linked
pub record IsLinked (records : List Pushed) (page now : List ℕ) (k : ℕ) : Type 0 where
  pub has : now ≡ with_bytes page 120 (heap_so_far records k)
  pub size : length (heap_so_far records k) ≡ total_size records

-- record k stands there as it was pushed
pub stands_there : (records : List Pushed) (page now : List ℕ) (k : ℕ) → AreWhole records → k < length records
    → 120 + total_size records ≤ length page → IsLinked records page now k
    → now ≡ with_bytes now (start_of records k) (pushed_at records k).bytes
stands_there records page now k whole below inside linked =
    let xs : List ℕ = records_so_far records k in
    let r : Pushed = pushed_at records k in
    let ys : List ℕ = records_left records (k + 1) in
    let here = heap_at records k below in
    let is : now ≡ with_bytes page 120 (xs ++ r.bytes ++ ys) =
    linked.has ∙ ap (λ (zs : List ℕ). with_bytes page 120 zs) here in
    let place : start_of records k ≡ 120 + length xs =
    omega (arith, start_is records k, front_length records k whole (omega arith)) in
    is
    ∙ sym (ap (λ (p : List ℕ). with_bytes p (start_of records k) r.bytes) is
    ∙ piece_put page 120 (start_of records k) xs r.bytes r.bytes ys place refl
    (omega (arith, inside, linked.size, ap length here)))

-- and then it is linked
pub links_more : (records : List Pushed) (page before now : List ℕ) (k : ℕ) → AreWhole records → k < length records
    → 120 + total_size records ≤ length page → IsLinked records page before k
    → now ≡ with_bytes before (start_of records k) (linked_bytes records k)
    → IsLinked records page now (k + 1)
links_more records page before now k whole below inside linked step =
    let xs : List ℕ = records_so_far records k in
    let r : Pushed = pushed_at records k in
    let ys : List ℕ = records_left records (k + 1) in
    let l : List ℕ = linked_bytes records k in
    let here = heap_at records k below in
    let is : before ≡ with_bytes page 120 (xs ++ r.bytes ++ ys) =
    linked.has ∙ ap (λ (zs : List ℕ). with_bytes page 120 zs) here in
    let place : start_of records k ≡ 120 + length xs =
    omega (arith, start_is records k, front_length records k whole (omega arith)) in
    record {
      has = step ∙ ap (λ (p : List ℕ). with_bytes p (start_of records k) l) is
          ∙ piece_put page 120 (start_of records k) xs r.bytes l ys place
          (length-linked r (owned_at (length records) k) (next_of_record records k) (whole.each k below))
          (omega (arith, inside, linked.size, ap length here))
          ∙ ap (λ (zs : List ℕ). with_bytes page 120 zs) (sym (heap_more records k below));
      size = heap_size records k whole below ∙ linked.size;
    }

pub links_none : (records : List Pushed) (page now heap : List ℕ) → heap ≡ unlinked_bytes records
    → length heap ≡ total_size records → now ≡ with_bytes page 120 heap → IsLinked records page now 0
links_none records page now heap is size step =
    record {
      has = step ∙ ap (λ (xs : List ℕ). with_bytes page 120 xs) is;
      size = ap length (sym is) ∙ size;
    }

pub links_all : (records : List Pushed) (page now : List ℕ) (k : ℕ) → length records ≤ k
    → IsLinked records page now k → now ≡ with_bytes page 120 (heap_bytes records)
links_all records page now k past linked =
    let rest : records_left records k ≡ [] = ap (λ (rs : List Pushed). unlinked_bytes rs) (drop_all k records past) in
    linked.has
    ∙ ap (λ (xs : List ℕ). with_bytes page 120 (records_so_far records k ++ xs)) rest
    ∙ ap (λ (xs : List ℕ). with_bytes page 120 xs) (append-nil (records_so_far records k))
    ∙ ap (λ (xs : List ℕ). with_bytes page 120 xs) (records_all records k past)

-- the directory so far
abbrev pub slot_list : List Pushed → List ℕ
slot_list records = reverse (map (slot_origin records) (range_with_len 0 (slots_for (length records))))

abbrev pub slots_so_far : List Pushed → ℕ → List ℕ
slots_so_far records j = flat_map (be_bytes 2) (take j (slot_list records))

pub length-slot_list : (records : List Pushed) → length (slot_list records) ≡ slots_for (length records)
length-slot_list records =
    let slots : List ℕ = map (slot_origin records) (range_with_len 0 (slots_for (length records))) in
    length-reverse slots ∙ length-map-range_with_len (slot_origin records) 0 (slots_for (length records))

-- numbers of two bytes with one more
pub numbers_more : (xs : List ℕ) (i : ℕ) → i < length xs
    → flat_map (be_bytes 2) (take (i + 1) xs) ≡ flat_map (be_bytes 2) (take i xs) ++ be_bytes 2 (get_or xs i 0)
numbers_more xs i below =
    ap (λ (ys : List ℕ). flat_map (be_bytes 2) ys) (take_more xs i 0 below)
    ∙ flat_map-append (be_bytes 2) (take i xs) (get_or xs i 0 ∷ [])

pub numbers_put : (xs page before now : List ℕ) (at end i : ℕ) → i < length xs → at + 2 * i ≤ length page
    → before ≡ with_bytes page at (flat_map (be_bytes 2) (take i xs)) → end ≡ at + 2 * i
    → now ≡ with_bytes before end (be_bytes 2 (get_or xs i 0))
    → now ≡ with_bytes page at (flat_map (be_bytes 2) (take (i + 1) xs))
numbers_put xs page before now at end i below inside written ends step =
    let size : length (flat_map (be_bytes 2) (take i xs)) ≡ 2 * i =
    omega (arith, pairs_length (take i xs), length-take-le i xs (omega arith)) in
    written_more page before now (flat_map (be_bytes 2) (take i xs)) (be_bytes 2 (get_or xs i 0))
    (flat_map (be_bytes 2) (take (i + 1) xs)) at end written (omega arith) step (numbers_more xs i below) (omega arith)

pub numbers_all : (xs : List ℕ) (i : ℕ) → length xs ≤ i → flat_map (be_bytes 2) (take i xs) ≡ flat_map (be_bytes 2) xs
numbers_all xs i past = ap (λ (ys : List ℕ). flat_map (be_bytes 2) ys) (take_all i xs past)

pub slot_in_list : (records : List Pushed) (j : ℕ) → j < slots_for (length records)
    → get_or (slot_list records) j 0 ≡ slot_origin records (slots_for (length records) - 1 - j)
slot_in_list records j below =
    let s : ℕ = slots_for (length records) in
    let slots : List ℕ = map (slot_origin records) (range_with_len 0 s) in
    let size : length slots ≡ s = length-map-range_with_len (slot_origin records) 0 s in
    let i : ℕ = s - 1 - j in
    get_or-reverse slots j 0 (omega arith) ∙ ap (λ (n : ℕ). get_or slots (n - 1 - j) 0) size
    ∙ get_or-map-range_with_len (slot_origin records) 0 s i i 0 (omega arith) (omega arith)

pub directory_all : (records : List Pushed) (j : ℕ) → slots_for (length records) ≤ j
    → slots_so_far records j ≡ directory_bytes records
unfolding directory_bytes
directory_all records j past =
    numbers_all (slot_list records) j (omega (arith, length-slot_list records))

-- a segment header in three steps
pub segment_put : (page first second now : List ℕ) (at space number offset : ℕ) → at + 10 ≤ length page
    → first ≡ with_bytes page at (be_bytes 4 space) → second ≡ with_bytes first (at + 4) (be_bytes 4 number)
    → now ≡ with_bytes second (at + 8) (be_bytes 2 offset)
    → now ≡ with_bytes page at (segment_header space number offset)
segment_put page first second now at space number offset inside e1 e2 e3 =
    let two : second ≡ with_bytes page at (be_bytes 4 space ++ be_bytes 4 number) =
    written_more page first second (be_bytes 4 space) (be_bytes 4 number) (be_bytes 4 space ++ be_bytes 4 number) at
    (at + 4) e1 refl e2 refl (omega arith) in
    written_more page second now (be_bytes 4 space ++ be_bytes 4 number) (be_bytes 2 offset)
    (segment_header space number offset) at (at + 8) two refl e3 refl (omega arith)

-- two writes, one behind the other
pub two_put : (page first now xs ys : List ℕ) (at next : ℕ) → first ≡ with_bytes page at xs
    → now ≡ with_bytes first next ys → next ≡ at + length xs → at + length xs ≤ length page
    → now ≡ with_bytes page at (xs ++ ys)
two_put page first now xs ys at next e1 e2 place inside =
    written_more page first now xs ys (xs ++ ys) at next e1 place e2 refl inside

pub neighbours_put : (page first now : List ℕ) (prev next : ℕ) → page ≡ replicate 16384 0
    → first ≡ with_bytes page 8 (be_bytes 4 prev) → now ≡ with_bytes first 12 (be_bytes 4 next)
    → now ≡ page_beside prev next
unfolding page_beside
neighbours_put page first now prev next zeros e1 e2 =
    let size : length page ≡ 16384 = ap (λ (xs : List ℕ). length xs) zeros ∙ length-replicate {A = ℕ} 16384 0 in
    two_put page first now (be_bytes 4 prev) (be_bytes 4 next) 8 12 e1 e2 refl (omega arith)
    ∙ ap (λ (p : List ℕ). with_bytes p 8 (be_bytes 4 prev ++ be_bytes 4 next)) zeros

-- the page header in three steps
pub header_put : (packing : Packing) (page first second now : List ℕ) (index_id : ℕ) (heads : Option Heads)
    → length page ≡ 16384 → first ≡ with_bytes page 38 (flat_map (be_bytes 2) (header_numbers packing))
    → second ≡ with_bytes first 66 (be_bytes 8 index_id) → now ≡ with_bytes second 74 (head_bytes heads)
    → now ≡ with_bytes page 38 (page_header packing index_id heads)
unfolding page_header
header_put packing page first second now index_id heads long e1 e2 e3 =
    let a : List ℕ = flat_map (be_bytes 2) (header_numbers packing) in
    let two : second ≡ with_bytes page 38 (a ++ be_bytes 8 index_id) =
    two_put page first second a (be_bytes 8 index_id) 38 66 e1 e2 refl (omega arith) in
    two_put page second now (a ++ be_bytes 8 index_id) (head_bytes heads) 38 74 two e3 refl (omega arith)

-- the two ends in five steps
pub ends_put : (records : List Pushed) (page first second third fourth now : List ℕ) (next owned : ℕ)
    → length page ≡ 16384 → next ≡ next_between infimum (origin_at records 0)
    → owned ≡ owned_by_supremum (length records)
    → first ≡ with_bytes page 94 (1 ∷ 0 ∷ 2 ∷ []) → second ≡ with_bytes first 97 (be_bytes 2 next)
    → third ≡ with_bytes second 99 (codes "infimum" ++ (0 ∷ []))
    → fourth ≡ with_bytes third 107 (owned ∷ 0 ∷ 11 ∷ 0 ∷ 0 ∷ [])
    → now ≡ with_bytes fourth 112 (codes "supremum") → now ≡ with_bytes page 94 (end_bytes records)
unfolding end_bytes
ends_put records page first second third fourth now next owned long is own e1 e2 e3 e4 e5 =
    let a : List ℕ = 1 ∷ 0 ∷ 2 ∷ [] in
    let b : List ℕ = be_bytes 2 (next_between infimum (origin_at records 0)) in
    let t : List ℕ = codes "infimum" ++ (0 ∷ []) in
    let d : List ℕ = owned_by_supremum (length records) ∷ 0 ∷ 11 ∷ 0 ∷ 0 ∷ [] in
    let e2' : second ≡ with_bytes first 97 b = e2 ∙ ap (λ (n : ℕ). with_bytes first 97 (be_bytes 2 n)) is in
    let e4' : fourth ≡ with_bytes third 107 d =
    e4 ∙ ap (λ (n : ℕ). with_bytes third 107 (n ∷ 0 ∷ 11 ∷ 0 ∷ 0 ∷ [])) own in
    let two : second ≡ with_bytes page 94 (a ++ b) = two_put page first second a b 94 97 e1 e2' refl (omega arith) in
    let three : third ≡ with_bytes page 94 (a ++ b ++ t) =
    two_put page second third (a ++ b) t 94 99 two e3 refl (omega arith) in
    let four : fourth ≡ with_bytes page 94 (a ++ b ++ t ++ d) =
    two_put page third fourth (a ++ b ++ t) d 94 107 three e4' refl (omega arith) in
    two_put page fourth now (a ++ b ++ t ++ d) (codes "supremum") 94 112 four e5 refl (omega arith)

-- the whole page
pub page_put : (packing : Packing) (first second third fourth now : List ℕ) (prev next index_id : ℕ)
    (heads : Option Heads)
    → AreWhole packing.records → 120 + total_size packing.records ≤ 16376
    → first ≡ page_beside prev next
    → second ≡ with_bytes first 38 (page_header packing index_id heads)
    → third ≡ with_bytes second 94 (end_bytes packing.records)
    → fourth ≡ with_bytes third 120 (heap_bytes packing.records)
    → now ≡ with_bytes fourth (16376 - 2 * slots_for (length packing.records)) (directory_bytes packing.records)
    → now ≡ packed_page packing prev next index_id heads
unfolding packed_page
page_put packing first second third fourth now prev next index_id heads whole fits e1 e2 e3 e4 e5 =
    let header : List ℕ = page_header packing index_id heads in
    let ends : List ℕ = end_bytes packing.records in
    let heap : List ℕ = heap_bytes packing.records in
    let s : ℕ = 16376 - 2 * slots_for (length packing.records) in
    let long : length first ≡ 16384 = ap (λ (xs : List ℕ). length xs) e1 ∙ beside_length prev next in
    let h : length header ≡ 56 = length-page_header packing index_id heads in
    let e : length ends ≡ 26 = length-end_bytes packing.records in
    let he = length-append header ends in
    let three : third ≡ with_bytes first 38 (header ++ ends) =
    two_put first second third header ends 38 94 e2 e3 (omega arith) (omega arith) in
    let four : fourth ≡ with_bytes first 38 (header ++ ends ++ heap) =
    two_put first third fourth (header ++ ends) heap 38 120 three e4 (omega (arith, he)) (omega (arith, he)) in
    e5 ∙ ap (λ (p : List ℕ). with_bytes p s (directory_bytes packing.records)) four
    ∙ ap (λ (p : List ℕ). with_bytes (with_bytes p 38 (header ++ ends ++ heap)) s (directory_bytes packing.records)) e1

-- the numbers of the header
pub numbers_are : (packing : Packing) (slots top count level : ℕ) → slots ≡ slots_for (length packing.records)
    → top ≡ 120 + total_size packing.records → count ≡ length packing.records → level ≡ packing.level
    → slots ∷ top ∷ (32768 + (count + 2)) ∷ 0 ∷ 0 ∷ 0 ∷ 5 ∷ 0 ∷ count ∷ 0 ∷ 0 ∷ 0 ∷ 0 ∷ level ∷ []
    ≡ header_numbers packing
numbers_are packing slots top count level e1 e2 e3 e4 = rw (e1, e2, e3, e4) refl
