-- The sizes of a packed page's parts, and the bytes of one record among them.
use Rattle.std.proofs.Common.{◌≡◌, ℕ, zero, suc, ◌+◌, ◌-◌, ◌*◌, ◌<◌, ◌≤◌, true, nat_lt, List, [], ◌∷◌}
use Rattle.std.proofs.Common.{length, get_or, take, map, reverse, flat_map, slice_index, refl, sym, ap}
use Rattle.std.proofs.Common.{◌∙◌, subst, arith}
use Rattle.std.specs.List.{range_with_len}
use Rattle.std.proofs.lemmas.Bool.{leb-true, cond-true, lt-ltb, le-ltb, cond-false}
use Rattle.std.proofs.lemmas.List.{take_all, take-take, length-reverse}
use Rattle.std.proofs.lemmas.List.Sums.{sum_by_more, sum_by-take-le}
use Rattle.std.proofs.lemmas.List.Concat.{get_or-flat_map}
use Rattle.std.proofs.lemmas.List.FromFn.{length-range_with_len, get_or-range_with_len, length-map-range_with_len}
use Rattle.page_source.specs.Pages.{num, be_bytes, with_bytes}
use Rattle.page_source.proofs.Numbers.{num-with_bytes}
use Rattle.page_source.proofs.Written.{length-with_bytes, get_or-with_bytes_before, get_or-with_bytes_after}
use Rattle.page_source.proofs.Written.{get_or-with_bytes_at}
use Rattle.compact_record.proofs.Pieces.{flat_more}
use Rattle.index_page.specs.Header.{supremum}
use Rattle.page_packer.specs.Packing.{Pushed, IsWhole, AreWhole, slots_for, total_size, sizes_fit, pushed_at}
use Rattle.page_packer.specs.Packing.{start_of, origin_at, linked}
use Rattle.page_packer.specs.Packing.{linked_bytes, heap_bytes, owned_at, owned_by_supremum, next_of_record}
use Rattle.page_packer.specs.Packing.{slot_origin, directory_bytes}

-- the records and the directory end before the trailer
pub fits_of : (count total : ℕ) → sizes_fit count total ≡ true → 120 + total + 2 * slots_for count ≤ 16376
fits_of count total fit = leb-true (120 + total + 2 * slots_for count) 16376 fit

abbrev pub none_pushed : Pushed
none_pushed = record { bytes = []; origin = 0 }

-- where the next record begins
pub start_more : (records : List Pushed) (k : ℕ) → k < length records
    → start_of records (k + 1) ≡ start_of records k + length (pushed_at records k).bytes
unfolding start_of
start_more records k below =
    let more = sum_by_more (λ (r : Pushed). length r.bytes) records k none_pushed below in
    omega (arith, more)

pub start_none : (records : List Pushed) → start_of records 0 ≡ 120
unfolding start_of
start_none records = refl

pub start_all : (records : List Pushed) → start_of records (length records) ≡ 120 + total_size records
unfolding start_of
start_all records =
    let all : take (length records) records ≡ records = take_all (length records) records (omega arith) in
    ap (λ (rs : List Pushed). 120 + total_size rs) all

pub start_is : (records : List Pushed) (k : ℕ) → start_of records k ≡ 120 + total_size (take k records)
unfolding start_of
start_is records k = refl

-- later records begin later
pub starts_rise : (records : List Pushed) (i j : ℕ) → i ≤ j → start_of records i ≤ start_of records j
unfolding start_of
starts_rise records i j before =
    let less = sum_by-take-le (λ (r : Pushed). length r.bytes) (take j records) i in
    let cut : total_size (take i (take j records)) ≡ total_size (take i records) =
    ap (λ (rs : List Pushed). total_size rs) (take-take i j records before) in
    omega (arith, less, cut)

-- the origin of a record
pub origin_in_page : (records : List Pushed) (k : ℕ) → k < length records
    → origin_at records k ≡ start_of records k + (pushed_at records k).origin
unfolding origin_at
origin_in_page records k below =
    cond-true (nat_lt k (length records)) (start_of records k + (pushed_at records k).origin) supremum
    (lt-ltb k (length records) below)

pub origin_behind : (records : List Pushed) (k : ℕ) → length records ≤ k → origin_at records k ≡ supremum
unfolding origin_at
origin_behind records k past =
    cond-false (nat_lt k (length records)) (start_of records k + (pushed_at records k).origin) supremum
    (le-ltb k (length records) past)

-- linking keeps the length
owning_length : (r : Pushed) (owned : ℕ) → IsWhole r
    → length (with_bytes r.bytes (r.origin - 5) ((slice_index r.bytes (r.origin - 5) + owned) ∷ [])) ≡ length r.bytes
owning_length r owned whole =
    let least = whole.least in
    let most = whole.most in
    length-with_bytes r.bytes (r.origin - 5) ((slice_index r.bytes (r.origin - 5) + owned) ∷ []) (omega arith)

pub length-linked : (r : Pushed) (owned next : ℕ) → IsWhole r → length (linked r owned next) ≡ length r.bytes
unfolding linked
length-linked r owned next whole =
    let least = whole.least in
    let most = whole.most in
    let size = owning_length r owned whole in
    length-with_bytes (with_bytes r.bytes (r.origin - 5) ((slice_index r.bytes (r.origin - 5) + owned) ∷ []))
    (r.origin - 2) (be_bytes 2 next) (omega (arith, size)) ∙ size

-- the bytes below the header stay
pub linked_below : (r : Pushed) (owned next j : ℕ) → IsWhole r → j + 5 < r.origin
    → get_or (linked r owned next) j 0 ≡ get_or r.bytes j 0
unfolding linked
linked_below r owned next j whole before =
    let least = whole.least in
    let most = whole.most in
    let size = owning_length r owned whole in
    let info : List ℕ = (slice_index r.bytes (r.origin - 5) + owned) ∷ [] in
    get_or-with_bytes_before (with_bytes r.bytes (r.origin - 5) info) (r.origin - 2) (be_bytes 2 next) j 0
    (omega (arith, size)) (omega arith)
    ∙ get_or-with_bytes_before r.bytes (r.origin - 5) info j 0 (omega arith) (omega arith)

-- the first byte of the header takes the owner count
pub linked_info : (r : Pushed) (owned next : ℕ) → IsWhole r
    → get_or (linked r owned next) (r.origin - 5) 0 ≡ slice_index r.bytes (r.origin - 5) + owned
unfolding linked
linked_info r owned next whole =
    let least = whole.least in
    let most = whole.most in
    let size = owning_length r owned whole in
    let info : List ℕ = (slice_index r.bytes (r.origin - 5) + owned) ∷ [] in
    let place : r.origin - 5 ≡ r.origin - 5 + 0 = omega arith in
    get_or-with_bytes_before (with_bytes r.bytes (r.origin - 5) info) (r.origin - 2) (be_bytes 2 next) (r.origin - 5) 0
    (omega (arith, size)) (omega arith)
    ∙ ap (λ (n : ℕ). get_or (with_bytes r.bytes (r.origin - 5) info) n 0) place
    ∙ get_or-with_bytes_at r.bytes (r.origin - 5) info 0 0 (omega arith) (omega arith)

-- the two bytes with heap number and status stay
pub linked_heap : (r : Pushed) (owned next j : ℕ) → IsWhole r → r.origin < j + 5 → j + 2 < r.origin
    → get_or (linked r owned next) j 0 ≡ get_or r.bytes j 0
unfolding linked
linked_heap r owned next j whole after before =
    let least = whole.least in
    let most = whole.most in
    let size = owning_length r owned whole in
    let info : List ℕ = (slice_index r.bytes (r.origin - 5) + owned) ∷ [] in
    get_or-with_bytes_before (with_bytes r.bytes (r.origin - 5) info) (r.origin - 2) (be_bytes 2 next) j 0
    (omega (arith, size)) (omega arith)
    ∙ get_or-with_bytes_after r.bytes (r.origin - 5) info j 0 (omega arith) (omega arith)

-- the next field
pub linked_next : (r : Pushed) (owned next : ℕ) → IsWhole r → next < 65536
    → num (linked r owned next) (r.origin - 2) 2 ≡ next
unfolding linked
linked_next r owned next whole fits =
    let least = whole.least in
    let most = whole.most in
    let size = owning_length r owned whole in
    num-with_bytes (with_bytes r.bytes (r.origin - 5) ((slice_index r.bytes (r.origin - 5) + owned) ∷ []))
    (r.origin - 2) 2 next (omega (arith, size)) fits

-- the values stay
pub linked_values : (r : Pushed) (owned next j : ℕ) → IsWhole r → r.origin ≤ j
    → get_or (linked r owned next) j 0 ≡ get_or r.bytes j 0
unfolding linked
linked_values r owned next j whole after =
    let least = whole.least in
    let most = whole.most in
    let size = owning_length r owned whole in
    let info : List ℕ = (slice_index r.bytes (r.origin - 5) + owned) ∷ [] in
    get_or-with_bytes_after (with_bytes r.bytes (r.origin - 5) info) (r.origin - 2) (be_bytes 2 next) j 0
    (omega (arith, size)) (omega arith)
    ∙ get_or-with_bytes_after r.bytes (r.origin - 5) info j 0 (omega arith) (omega arith)

-- the first k records on the page take the bytes of the first k that were pushed
pub place_in_range : (n k : ℕ) → k < n → get_or (range_with_len 0 n) k 0 ≡ k
place_in_range n k below = get_or-range_with_len 0 n k 0 below ∙ omega arith

pub front_length : (records : List Pushed) (k : ℕ) → AreWhole records → k ≤ length records
    → length (flat_map (linked_bytes records) (take k (range_with_len 0 (length records))))
    ≡ total_size (take k records)
front_length records zero whole most = refl
front_length records (suc k) whole most =
    let n : ℕ = length records in
    let below : k < n = omega arith in
    let range : List ℕ = range_with_len 0 n in
    let f : suc k ≡ k + 1 = omega arith in
    let here : length (linked_bytes records (get_or range k 0)) ≡ length (pushed_at records k).bytes =
    ap (λ (i : ℕ). length (linked_bytes records i)) (place_in_range n k below)
    ∙ length-linked (pushed_at records k) (owned_at n k) (next_of_record records k) (whole.each k below) in
    let more = flat_more (linked_bytes records) range k 0 (omega (arith, length-range_with_len 0 n)) in
    let sum = sum_by_more (λ (r : Pushed). length r.bytes) records k none_pushed below in
    let before = front_length records k whole (omega arith) in
    subst (λ (i : ℕ). length (flat_map (linked_bytes records) (take i range)) ≡ total_size (take i records)) (sym f)
    (omega (arith, more, sum, before, here))

pub length-heap_bytes : (records : List Pushed) → AreWhole records → length (heap_bytes records) ≡ total_size records
unfolding heap_bytes
length-heap_bytes records whole =
    let n : ℕ = length records in
    let range : List ℕ = range_with_len 0 n in
    let all : take n range ≡ range = take_all n range (omega (arith, length-range_with_len 0 n)) in
    let same : take n records ≡ records = take_all n records (omega arith) in
    ap (λ (ks : List ℕ). length (flat_map (linked_bytes records) ks)) (sym all)
    ∙ front_length records n whole (omega arith) ∙ ap (λ (rs : List Pushed). total_size rs) same

-- byte j of record k among them
pub heap_at : (records : List Pushed) (k j : ℕ) → AreWhole records → k < length records
    → j < length (pushed_at records k).bytes
    → get_or (heap_bytes records) (total_size (take k records) + j) 0 ≡ get_or (linked_bytes records k) j 0
unfolding heap_bytes
heap_at records k j whole below inside =
    let n : ℕ = length records in
    let range : List ℕ = range_with_len 0 n in
    let place : get_or range k 0 ≡ k = place_in_range n k below in
    let size : length (linked_bytes records k) ≡ length (pushed_at records k).bytes =
    length-linked (pushed_at records k) (owned_at n k) (next_of_record records k) (whole.each k below) in
    let long : j < length (linked_bytes records (get_or range k 0)) =
    subst (λ (i : ℕ). j < length (linked_bytes records i)) (sym place) (omega (arith, size)) in
    ap (λ (m : ℕ). get_or (flat_map (linked_bytes records) range) (m + j) 0)
    (sym (front_length records k whole (omega arith)))
    ∙ get_or-flat_map (linked_bytes records) range k j 0 0 (omega (arith, length-range_with_len 0 n)) long
    ∙ ap (λ (i : ℕ). get_or (linked_bytes records i) j 0) place

-- the slots of a directory, and the group of the supremum
pub slots_least : (n : ℕ) → 2 ≤ slots_for n
slots_least n = omega arith

pub slots_middle : (n : ℕ) → 4 * (slots_for n - 2) ≤ n
slots_middle n = omega arith

pub supremum_most : (n : ℕ) → owned_by_supremum n ≤ 7
unfolding owned_by_supremum
supremum_most n = omega arith

-- numbers of two bytes, one behind the other
pub pairs_length : (xs : List ℕ) → length (flat_map (be_bytes 2) xs) ≡ 2 * length xs
pairs_length [] = refl
pairs_length (x ∷ xs) = let rest = pairs_length xs in omega (arith, rest)

pub length-directory_bytes : (records : List Pushed)
    → length (directory_bytes records) ≡ 2 * slots_for (length records)
unfolding directory_bytes
length-directory_bytes records =
    let slots : List ℕ = map (slot_origin records) (range_with_len 0 (slots_for (length records))) in
    let size = length-map-range_with_len (slot_origin records) 0 (slots_for (length records)) in
    omega (arith, pairs_length (reverse slots), length-reverse slots, size)
