-- A record that is placed is read as its parts.
use Rattle.std.proofs.Common.{◌≡◌, ℕ, ◌+◌, ◌-◌, ◌*◌, ◌/◌, ◌%◌, ◌<◌, ◌≤◌, Bool, true, false, List}
use Rattle.std.proofs.Common.{◌++◌, length, get_or, reverse, slice_range, slice_index, if◌then◌else◌, refl, sym, ap}
use Rattle.std.proofs.Common.{◌∙◌, arith}
use Rattle.std.proofs.Common.{length-append, eq-eqb, lit<}
use Rattle.std.proofs.lemmas.Bool.{ne_eqb}
use Rattle.std.proofs.lemmas.List.{get_or-append-add, get_or_append_left, get_or-reverse, length-reverse, same_lists}
use Rattle.std.proofs.lemmas.List.{get_or_default}
use Rattle.std.proofs.lemmas.List.Edits.{length-between, get_or-between}
use Rattle.page_source.specs.Pages.{num, with_bytes}
use Rattle.page_source.proofs.Written.{length-with_bytes, get_or-with_bytes_at}
use Rattle.column_values.specs.Types.{Fields, AreFields}
use Rattle.compact_record.specs.declared.parts.Part.{Part}
use Rattle.compact_record.specs.Header.{heap_number, status_of, owned_by, is_minimum, is_deleted}
use Rattle.compact_record.specs.Writing.{FitFields, StandsAt, bytes_below, value_bytes, header_bytes}
use Rattle.compact_record.specs.Writing.{record_bytes, origin_in, size_of_record}
use Rattle.compact_record.specs.Laws.{ReadsWhatIsPlaced}
use Rattle.compact_record.proofs.ReadParts.{reads_what_stands}

pub origin_is : (fields : Fields) (parts : List Part) → origin_in fields parts ≡ length (bytes_below fields parts) + 5
unfolding origin_in
origin_is fields parts = refl

pub size_is : (fields : Fields) (parts : List Part)
    → size_of_record fields parts ≡ length (bytes_below fields parts) + 5 + length (value_bytes parts)
unfolding size_of_record origin_in
size_is fields parts = refl

pub record_is : (fields : Fields) (parts : List Part) (heap kind : ℕ) (minimum : Bool)
    → record_bytes fields parts heap kind minimum
    ≡ reverse (bytes_below fields parts) ++ header_bytes heap kind minimum ++ value_bytes parts
unfolding record_bytes
record_is fields parts heap kind minimum = refl

-- a record has as many bytes as its size says
pub length-record_bytes : (fields : Fields) (parts : List Part) (heap kind : ℕ) (minimum : Bool)
    → length (record_bytes fields parts heap kind minimum) ≡ size_of_record fields parts
length-record_bytes fields parts heap kind minimum =
    let front : List ℕ = reverse (bytes_below fields parts) in
    let head : List ℕ = header_bytes heap kind minimum in
    let five : length head ≡ 5 = refl in
    ap length (record_is fields parts heap kind minimum)
    ∙ omega (
      arith,
      length-append (front ++ head) (value_bytes parts),
      length-append front head,
      five,
      length-reverse (bytes_below fields parts),
      size_is fields parts,
    )

-- its bytes below the header, from the header down
pub record_below : (fields : Fields) (parts : List Part) (heap kind : ℕ) (minimum : Bool) (k : ℕ)
    → k < length (bytes_below fields parts)
    → get_or (record_bytes fields parts heap kind minimum) (length (bytes_below fields parts) - 1 - k) 0
    ≡ get_or (bytes_below fields parts) k 0
record_below fields parts heap kind minimum k inside =
    let below : List ℕ = bytes_below fields parts in
    let j : ℕ = length below - 1 - k in
    let front : List ℕ = reverse below in
    let head : List ℕ = header_bytes heap kind minimum in
    let size : length front ≡ length below = length-reverse below in
    let in' : j < length front = omega (arith, size) in
    let in'' : j < length (front ++ head) = omega (arith, size, length-append front head) in
    let back : length below - 1 - j ≡ k = omega arith in
    let low : j < length below = omega arith in
    ap (λ (xs : List ℕ). get_or xs j 0) (record_is fields parts heap kind minimum)
    ∙ get_or_append_left (front ++ head) (value_bytes parts) 0 j in'' ∙ get_or_append_left front head 0 j in'
    ∙ get_or-reverse below j 0 low ∙ ap (λ (n : ℕ). get_or below n 0) back

-- its header
pub record_header : (fields : Fields) (parts : List Part) (heap kind : ℕ) (minimum : Bool) (j : ℕ) → j < 5
    → get_or (record_bytes fields parts heap kind minimum) (length (bytes_below fields parts) + j) 0
    ≡ get_or (header_bytes heap kind minimum) j 0
record_header fields parts heap kind minimum j inside =
    let below : List ℕ = bytes_below fields parts in
    let front : List ℕ = reverse below in
    let head : List ℕ = header_bytes heap kind minimum in
    let size : length front ≡ length below = length-reverse below in
    let five : length head ≡ 5 = refl in
    let in' : length below + j < length (front ++ head) = omega (arith, size, five, length-append front head) in
    ap (λ (xs : List ℕ). get_or xs (length below + j) 0) (record_is fields parts heap kind minimum)
    ∙ get_or_append_left (front ++ head) (value_bytes parts) 0 (length below + j) in'
    ∙ ap (λ (n : ℕ). get_or (front ++ head) (n + j) 0) (sym size) ∙ get_or-append-add front head j 0

-- its values
pub record_values : (fields : Fields) (parts : List Part) (heap kind : ℕ) (minimum : Bool) (k : ℕ)
    → get_or (record_bytes fields parts heap kind minimum) (length (bytes_below fields parts) + 5 + k) 0
    ≡ get_or (value_bytes parts) k 0
record_values fields parts heap kind minimum k =
    let below : List ℕ = bytes_below fields parts in
    let front : List ℕ = reverse below in
    let head : List ℕ = header_bytes heap kind minimum in
    let five : length head ≡ 5 = refl in
    let size : length (front ++ head) ≡ length below + 5 =
    omega (arith, length-reverse below, five, length-append front head) in
    ap (λ (xs : List ℕ). get_or xs (length below + 5 + k) 0) (record_is fields parts heap kind minimum)
    ∙ ap (λ (n : ℕ). get_or (front ++ head ++ value_bytes parts) (n + k) 0) (sym size)
    ∙ get_or-append-add (front ++ head) (value_bytes parts) k 0

-- the bytes of a record stand from byte `at` of a page on, but for those of its header
pub record HasRecord (page : List ℕ) (at : ℕ) (fields : Fields) (parts : List Part) (bytes : List ℕ) : Type 0 where
  pub inside : at + size_of_record fields parts ≤ length page
  pub below : (k : ℕ) → k < length (bytes_below fields parts) → slice_index page (at + k) ≡ get_or bytes k 0
  pub values : (k : ℕ) → k < length (value_bytes parts)
      → slice_index page (at + (length (bytes_below fields parts) + 5 + k))
      ≡ get_or bytes (length (bytes_below fields parts) + 5 + k) 0

-- so its parts stand around its origin
pub stands_from : (page : List ℕ) (at : ℕ) (fields : Fields) (parts : List Part) (heap kind : ℕ) (minimum : Bool)
    → AreFields fields → FitFields fields parts → 120 ≤ at
    → HasRecord page at fields parts (record_bytes fields parts heap kind minimum)
    → StandsAt page (at + origin_in fields parts) fields parts
stands_from page at fields parts heap kind minimum are fit least has =
    let below : List ℕ = bytes_below fields parts in
    let values : List ℕ = value_bytes parts in
    let o : ℕ = at + origin_in fields parts in
    let place : o ≡ at + (length below + 5) = ap (λ (n : ℕ). at + n) (origin_is fields parts) in
    let fits : o + length values ≤ length page = omega (arith, has.inside, size_is fields parts, place) in
    let size : length (slice_range page o (o + length values)) ≡ length values =
    omega (arith, length-between page o (o + length values) fits) in
    record {
      are_fields = are;
      fit = fit;
      room = omega (arith, place);
      below = λ k inside.
          let j : ℕ = length below - 1 - k in
          let there : o - 6 - k ≡ at + j = omega (arith, place) in
          ap (λ (n : ℕ). slice_index page n) there ∙ has.below j (omega arith)
          ∙ record_below fields parts heap kind minimum k inside;
      values = same_lists (slice_range page o (o + length values)) values size
          (λ k d in'.
          let here : k < length values = omega (arith, size) in
          let there : o + k ≡ at + (length below + 5 + k) = omega (arith, place) in
          get_or-between page o (o + length values) k d (omega arith)
          ∙ get_or_default page (o + k) d 0 (omega arith)
          ∙ ap (λ (n : ℕ). slice_index page n) there ∙ has.values k here
          ∙ record_values fields parts heap kind minimum k ∙ get_or_default values k 0 d here);
    }

-- the two bytes before the status spell heap number and status
pub heap_from : (page : List ℕ) (origin heap kind : ℕ) → 5 ≤ origin → kind < 8
    → slice_index page (origin - 4) ≡ (heap * 8 + kind) / 256 → slice_index page (origin - 3) ≡ (heap * 8 + kind) % 256
    → (heap_number page origin ≡ heap) × (status_of page origin ≡ kind)
unfolding heap_number status_of num
heap_from page origin heap kind least few high low =
    let e0 : origin - 4 + 0 ≡ origin - 4 = omega arith in
    let e1 : origin - 4 + 1 ≡ origin - 3 = omega arith in
    (rw (e0, e1, high, low) (omega arith), rw low (omega arith))

-- the first byte of a header has the minimum mark and the number of owned records
pub info_from : (page : List ℕ) (origin owned : ℕ) (minimum : Bool) → owned < 16
    → slice_index page (origin - 5) ≡ (if minimum then 16 else 0) + owned
    → (owned_by page origin ≡ owned) × (is_minimum page origin ≡ minimum) × (is_deleted page origin ≡ false)
unfolding owned_by is_minimum is_deleted
info_from page origin owned true few is =
    (rw is (omega arith), rw is (eq-eqb _ _ (omega arith)), rw is (ne_eqb _ _ (λ e. omega (arith, e))))
info_from page origin owned false few is = (
  rw is (omega arith),
  rw is (ne_eqb _ _ (λ e. omega (arith, e))),
  rw is (ne_eqb _ _ (λ e. omega (arith, e))),
)

plus_none : (n : ℕ) → n + 0 ≡ n
plus_none n = omega arith

pub reads_what_is_placed : ReadsWhatIsPlaced
unfolding num
reads_what_is_placed page at heap kind minimum fields parts whole are can =
    let bytes : List ℕ = record_bytes fields parts heap kind minimum in
    let now : List ℕ = with_bytes page at bytes in
    let below : List ℕ = bytes_below fields parts in
    let o : ℕ = at + origin_in fields parts in
    let long : length bytes ≡ size_of_record fields parts = length-record_bytes fields parts heap kind minimum in
    let size : size_of_record fields parts ≡ length below + 5 + length (value_bytes parts) = size_is fields parts in
    let place : o ≡ at + (length below + 5) = ap (λ (n : ℕ). at + n) (origin_is fields parts) in
    let most = can.most in
    let least = can.least in
    let length' : length now ≡ length page = length-with_bytes page at bytes (omega arith) in
    let byte : (k : ℕ) → k < length bytes → slice_index now (at + k) ≡ get_or bytes k 0 =
    λ k inside. get_or-with_bytes_at page at bytes k 0 (omega arith) inside in
    let stands : StandsAt now o fields parts =
    stands_from now at fields parts heap kind minimum are can.fit least
    (record {
      inside = omega arith;
      below = λ k inside. byte k (omega arith);
      values = λ k inside. byte (length below + 5 + k) (omega arith);
    }) in
    let read = reads_what_stands now o fields parts stands in
    let head : (j place : ℕ) → j < 5 → place ≡ at + (length below + j)
    → slice_index now place ≡ get_or (header_bytes heap kind minimum) j 0 =
    λ j there in' is.
    ap (λ (n : ℕ). slice_index now n) is ∙ byte (length below + j) (omega arith)
    ∙ record_header fields parts heap kind minimum j in' in
    let info = info_from now o 0 minimum (lit< tt)
    (head 0 (o - 5) (lit< tt) (omega arith) ∙ sym (plus_none (if minimum then 16 else 0))) in
    let number = heap_from now o heap kind (omega arith) (omega (arith, can.status))
    (head 1 (o - 4) (lit< tt) (omega arith)) (head 2 (o - 3) (lit< tt) (omega arith)) in
    let third = head 3 (o - 2 + 0) (lit< tt) (omega arith) in
    let fourth = head 4 (o - 2 + 1) (lit< tt) (omega arith) in
    record {
      header = record {
        next = rw (third, fourth) refl;
        number = number.0;
        status = number.1;
        owned = info.0;
        mark = info.1;
        deleted = info.2;
      };
      read = read;
      starts = omega (arith, read.starts);
      ends = omega (arith, read.ends);
    }
