-- The parts of a packed page, and of each page with its body.
use Rattle.std.proofs.Common.{◌≡◌, ℕ, ◌+◌, ◌-◌, ◌*◌, ◌<◌, ◌≤◌, true, List, ◌++◌, length, get_or, drop}
use Rattle.std.proofs.Common.{replicate, slice_range, slice_index, Option, Some, None, refl, sym, ap, ◌∙◌, arith, lit<}
use Rattle.std.proofs.Common.{length-append, length-take, length-drop}
use Rattle.std.proofs.lemmas.List.{length-replicate, get_or_append_left, get_or-append-add}
use Rattle.std.proofs.lemmas.List.Edits.{get_or-between, length-between}
use Rattle.page_source.specs.Pages.{num, be_bytes, with_bytes}
use Rattle.page_source.proofs.Written.{length-with_bytes, get_or-with_bytes_before}
use Rattle.page_source.proofs.Written.{get_or-with_bytes_at, num_from_bytes}
use Rattle.page_packer.specs.declared.packer.Heads.{Heads}
use Rattle.page_packer.specs.Packing.{Pushed, Packing, AreWhole, slots_for, total_size, sizes_fit, page_header}
use Rattle.page_packer.specs.Packing.{end_bytes}
use Rattle.page_packer.specs.Packing.{heap_bytes, front_bytes, directory_bytes, page_beside, packed_page}
use Rattle.page_packer.specs.Laws.{HasBodyOf}
use Rattle.page_packer.proofs.Sizes.{fits_of, length-heap_bytes, length-directory_bytes}

-- a page that has these parts
pub record HasPieces (page : List ℕ) (packing : Packing) (index_id : ℕ) (heads : Option Heads) : Type 0 where
  pub long : 16376 ≤ length page
  pub fits : 120 + total_size packing.records + 2 * slots_for (length packing.records) ≤ 16376
  pub header : (k : ℕ) → k < 56 → slice_index page (38 + k) ≡ get_or (page_header packing index_id heads) k 0
  pub ends : (k : ℕ) → k < 26 → slice_index page (94 + k) ≡ get_or (end_bytes packing.records) k 0
  pub heap : (k : ℕ) → k < total_size packing.records
      → slice_index page (120 + k) ≡ get_or (heap_bytes packing.records) k 0
  pub directory : (k : ℕ) → k < 2 * slots_for (length packing.records)
      → slice_index page (16376 - 2 * slots_for (length packing.records) + k)
      ≡ get_or (directory_bytes packing.records) k 0

pub length-page_header : (packing : Packing) (index_id : ℕ) (heads : Option Heads)
    → length (page_header packing index_id heads) ≡ 56
unfolding page_header
length-page_header packing index_id None = refl
length-page_header packing index_id (Some heads) = refl

pub length-end_bytes : (records : List Pushed) → length (end_bytes records) ≡ 26
unfolding end_bytes
length-end_bytes records = refl

pub front_length : (packing : Packing) (index_id : ℕ) (heads : Option Heads) → AreWhole packing.records
    → length (front_bytes packing index_id heads) ≡ 82 + total_size packing.records
front_length packing index_id heads whole =
    let header : List ℕ = page_header packing index_id heads in
    let ends : List ℕ = end_bytes packing.records in
    omega (
      arith,
      length-append (header ++ ends) (heap_bytes packing.records),
      length-append header ends,
      length-page_header packing index_id heads,
      length-end_bytes packing.records,
      length-heap_bytes packing.records whole,
    )

pub beside_length : (prev next : ℕ) → length (page_beside prev next) ≡ 16384
unfolding page_beside
beside_length prev next =
    let zeros = length-replicate {A = ℕ} 16384 0 in
    length-with_bytes (replicate 16384 0) 8 (be_bytes 4 prev ++ be_bytes 4 next) (omega (arith, zeros)) ∙ zeros

-- a packed page is a whole page
pub length-packed_page : (packing : Packing) (prev next index_id : ℕ) (heads : Option Heads) → AreWhole packing.records
    → sizes_fit (length packing.records) (total_size packing.records) ≡ true
    → length (packed_page packing prev next index_id heads) ≡ 16384
unfolding packed_page
length-packed_page packing prev next index_id heads whole fit =
    let fits = fits_of (length packing.records) (total_size packing.records) fit in
    let front : List ℕ = front_bytes packing index_id heads in
    let beside : List ℕ = page_beside prev next in
    let filled : List ℕ = with_bytes beside 38 front in
    let s : ℕ = 2 * slots_for (length packing.records) in
    let e0 : length beside ≡ 16384 = beside_length prev next in
    let e1 : length front ≡ 82 + total_size packing.records = front_length packing index_id heads whole in
    let e2 : length filled ≡ length beside = length-with_bytes beside 38 front (omega arith) in
    let e3 : length (directory_bytes packing.records) ≡ s = length-directory_bytes packing.records in
    length-with_bytes filled (16376 - s) (directory_bytes packing.records) (omega arith) ∙ e2 ∙ e0

-- the parts of a packed page
pub pieces_of_packed : (packing : Packing) (prev next index_id : ℕ) (heads : Option Heads) → AreWhole packing.records
    → sizes_fit (length packing.records) (total_size packing.records) ≡ true
    → HasPieces (packed_page packing prev next index_id heads) packing index_id heads
unfolding packed_page
pieces_of_packed packing prev next index_id heads whole fit =
    let fits = fits_of (length packing.records) (total_size packing.records) fit in
    let header : List ℕ = page_header packing index_id heads in
    let ends : List ℕ = end_bytes packing.records in
    let heap : List ℕ = heap_bytes packing.records in
    let front : List ℕ = front_bytes packing index_id heads in
    let beside : List ℕ = page_beside prev next in
    let filled : List ℕ = with_bytes beside 38 front in
    let directory : List ℕ = directory_bytes packing.records in
    let s : ℕ = 2 * slots_for (length packing.records) in
    let e0 : length beside ≡ 16384 = beside_length prev next in
    let e1 : length front ≡ 82 + total_size packing.records = front_length packing index_id heads whole in
    let e2 : length filled ≡ length beside = length-with_bytes beside 38 front (omega arith) in
    let e3 : length directory ≡ s = length-directory_bytes packing.records in
    let h : length header ≡ 56 = length-page_header packing index_id heads in
    let e : length ends ≡ 26 = length-end_bytes packing.records in
    let he : length (header ++ ends) ≡ 82 = omega (arith, length-append header ends) in
    let whole_page = length-packed_page packing prev next index_id heads whole fit in
    let byte : (k : ℕ) → k < length front
    → get_or (with_bytes filled (16376 - s) directory) (38 + k) 0 ≡ get_or front k 0 =
    λ k inside.
    get_or-with_bytes_before filled (16376 - s) directory (38 + k) 0 (omega arith) (omega arith)
    ∙ get_or-with_bytes_at beside 38 front k 0 (omega arith) inside in
    record {
      long = omega (arith, whole_page);
      fits = fits;
      header = λ k inside.
          byte k (omega arith) ∙ get_or_append_left (header ++ ends) heap 0 k (omega arith)
          ∙ get_or_append_left header ends 0 k (omega arith);
      ends = λ k inside.
          let place : 94 + k ≡ 38 + (length header + k) = omega arith in
          ap (λ (n : ℕ). get_or (with_bytes filled (16376 - s) directory) n 0) place
          ∙ byte (length header + k) (omega arith)
          ∙ get_or_append_left (header ++ ends) heap 0 (length header + k) (omega arith)
          ∙ get_or-append-add header ends k 0;
      heap = λ k inside.
          let place : 120 + k ≡ 38 + (length (header ++ ends) + k) = omega arith in
          ap (λ (n : ℕ). get_or (with_bytes filled (16376 - s) directory) n 0) place
          ∙ byte (length (header ++ ends) + k) (omega arith)
          ∙ get_or-append-add (header ++ ends) heap k 0;
      directory = λ k inside. get_or-with_bytes_at filled (16376 - s) directory k 0 (omega arith) (omega arith);
    }

-- a byte of a part that two pages share
pub same_byte : (page other : List ℕ) (i j k : ℕ) → slice_range page i j ≡ slice_range other i j → i ≤ k → k < j
    → slice_index page k ≡ slice_index other k
same_byte page other i j k same low high =
    let d : ℕ = k - i in
    let place : i + d ≡ k = omega arith in
    ap (λ (n : ℕ). slice_index page n) (sym place) ∙ sym (get_or-between page i j d 0 (omega arith))
    ∙ ap (λ (xs : List ℕ). get_or xs d 0) same ∙ get_or-between other i j d 0 (omega arith)
    ∙ ap (λ (n : ℕ). slice_index other n) place

same_length : (page other : List ℕ) (i j : ℕ) → slice_range page i j ≡ slice_range other i j → i < j
    → j ≤ length other → j ≤ length page
same_length page other i j same some inside =
    let size : length (slice_range page i j) ≡ j - i = ap length same ∙ length-between other i j inside in
    let taken = length-take (j - i) (drop i page) in
    let dropped = length-drop i page in
    omega (arith, size, taken, dropped)

-- each page with that body has its parts
pub pieces_of_body : (page : List ℕ) (packing : Packing) (prev next index_id : ℕ) (heads : Option Heads)
    → AreWhole packing.records
    → sizes_fit (length packing.records) (total_size packing.records) ≡ true
    → HasBodyOf (packed_page packing prev next index_id heads) page → HasPieces page packing index_id heads
pieces_of_body page packing prev next index_id heads whole fit has =
    let other : List ℕ = packed_page packing prev next index_id heads in
    let pieces : HasPieces other packing index_id heads = pieces_of_packed packing prev next index_id heads whole fit in
    let fits = pieces.fits in
    let long = pieces.long in
    let same : (k : ℕ) → 38 ≤ k → k < 16376 → slice_index page k ≡ slice_index other k =
    λ k low high. same_byte page other 38 16376 k has.body low high in
    let s : ℕ = 2 * slots_for (length packing.records) in
    record {
      long = same_length page other 38 16376 has.body (lit< tt) (omega arith);
      fits = fits;
      header = λ k inside. same (38 + k) (omega arith) (omega arith) ∙ pieces.header k inside;
      ends = λ k inside. same (94 + k) (omega arith) (omega arith) ∙ pieces.ends k inside;
      heap = λ k inside. same (120 + k) (omega arith) (omega arith) ∙ pieces.heap k inside;
      directory = λ k inside. same (16376 - s + k) (omega arith) (omega arith) ∙ pieces.directory k inside;
    }

-- a number of the header or of the two ends
pub header_num : (page : List ℕ) (packing : Packing) (index_id : ℕ) (heads : Option Heads) (at i width : ℕ)
    → HasPieces page packing index_id heads → i + width ≤ 56 → at ≡ 38 + i
    → num page at width ≡ num (page_header packing index_id heads) i width
header_num page packing index_id heads at i width has inside place =
    num_from_bytes page (page_header packing index_id heads) at i width
    (λ k below.
    let there : at + k ≡ 38 + (i + k) = omega arith in
    ap (λ (n : ℕ). slice_index page n) there ∙ has.header (i + k) (omega arith))

pub end_num : (page : List ℕ) (packing : Packing) (index_id : ℕ) (heads : Option Heads) (at i width : ℕ)
    → HasPieces page packing index_id heads → i + width ≤ 26 → at ≡ 94 + i
    → num page at width ≡ num (end_bytes packing.records) i width
end_num page packing index_id heads at i width has inside place =
    num_from_bytes page (end_bytes packing.records) at i width
    (λ k below.
    let there : at + k ≡ 94 + (i + k) = omega arith in
    ap (λ (n : ℕ). slice_index page n) there ∙ has.ends (i + k) (omega arith))
