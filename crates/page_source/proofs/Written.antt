-- What is read of a page after bytes were written on it: what was written, and elsewhere what stood there.
use Rattle.std.proofs.Common.{◌≡◌, ℕ, zero, suc, ◌+◌, ◌-◌, ◌<◌, ◌≤◌, Bool, true, ◌&&◌, ◌||◌, nat_le, IsTrue, inl, inr}
use Rattle.std.proofs.Common.{List, [], ◌∷◌, ◌++◌, length, get_or, take, drop, slice_range, length-append, append_assoc}
use Rattle.std.proofs.Common.{refl, sym, ap, ◌∙◌, arith}
use Rattle.std.proofs.lemmas.Bool.{and_parts, or_cases, leb-true}
use Rattle.std.proofs.Math.Seq.{take_at, drop_at}
use Rattle.std.proofs.lemmas.List.{places, same_lists, drop-drop, length-take-le}
use Rattle.std.proofs.lemmas.List.Edits.{get_or-between, length-between}
use Rattle.page_source.specs.Pages.{num, with_bytes}

-- a write keeps the length
pub length-with_bytes : (page : List ℕ) (at : ℕ) (bytes : List ℕ) → at + length bytes ≤ length page
    → length (with_bytes page at bytes) ≡ length page
unfolding with_bytes
length-with_bytes page at bytes inside = grind (arith, places)

-- a byte before the write
pub get_or-with_bytes_before : (page : List ℕ) (at : ℕ) (bytes : List ℕ) (k d : ℕ) → at ≤ length page → k < at
    → get_or (with_bytes page at bytes) k d ≡ get_or page k d
unfolding with_bytes
get_or-with_bytes_before page at bytes k d inside before = grind (arith, places)

-- a byte after the write
pub get_or-with_bytes_after : (page : List ℕ) (at : ℕ) (bytes : List ℕ) (k d : ℕ) → at ≤ length page
    → at + length bytes ≤ k
    → get_or (with_bytes page at bytes) k d ≡ get_or page k d
unfolding with_bytes
get_or-with_bytes_after page at bytes k d inside after = grind (arith, places)

-- a byte that was written
pub get_or-with_bytes_at : (page : List ℕ) (at : ℕ) (bytes : List ℕ) (k d : ℕ) → at ≤ length page → k < length bytes
    → get_or (with_bytes page at bytes) (at + k) d ≡ get_or bytes k d
unfolding with_bytes
get_or-with_bytes_at page at bytes k d inside written = grind (arith, places)

-- the page after several writes, each with its place
abbrev pub written : List ℕ → List (ℕ × List ℕ) → List ℕ
written page [] = page
written page (write ∷ writes) = written (with_bytes page write.0 write.1) writes

-- each ends within so many bytes
abbrev pub all_within : ℕ → List (ℕ × List ℕ) → Bool
all_within size [] = true
all_within size (write ∷ writes) = nat_le (write.0 + length write.1) size && all_within size writes

-- none touches the bytes from i to j
abbrev pub all_apart : ℕ → ℕ → List (ℕ × List ℕ) → Bool
all_apart i j [] = true
all_apart i j (write ∷ writes) = (nat_le j write.0 || nat_le (write.0 + length write.1) i) && all_apart i j writes

-- writes keep the length
pub length-written : (page : List ℕ) (size : ℕ) (writes : List (ℕ × List ℕ)) → length page ≡ size
    → IsTrue (all_within size writes)
    → length (written page writes) ≡ size
length-written page size [] same within = same
length-written page size (write ∷ writes) same within =
    let parts = and_parts (nat_le (write.0 + length write.1) size) (all_within size writes) within in
    let end : write.0 + length write.1 ≤ length page = omega (arith, leb-true _ _ parts.0) in
    length-written (with_bytes page write.0 write.1) size writes (length-with_bytes page write.0 write.1 end
    ∙ same) parts.1

-- a byte that no write touches stays
pub get_or-written : (page : List ℕ) (size : ℕ) (writes : List (ℕ × List ℕ)) (i j k d : ℕ) → length page ≡ size
    → IsTrue (all_within size writes)
    → IsTrue (all_apart i j writes) → i ≤ k → k < j
    → get_or (written page writes) k d ≡ get_or page k d
get_or-written page size [] i j k d same within apart low high = refl
get_or-written page size (write ∷ writes) i j k d same within apart low high =
    let parts = and_parts (nat_le (write.0 + length write.1) size) (all_within size writes) within in
    let end : write.0 + length write.1 ≤ length page = omega (arith, leb-true _ _ parts.0) in
    let parted = and_parts (nat_le j write.0 || nat_le (write.0 + length write.1) i) (all_apart i j writes) apart in
    let first = with_bytes page write.0 write.1 in
    let here : get_or first k d ≡ get_or page k d =
    elim (or_cases (nat_le j write.0) (nat_le (write.0 + length write.1) i) parted.0) [
      | inl before ↦ get_or-with_bytes_before page write.0 write.1 k d (omega arith) (omega
          (arith, leb-true _ _ before))
      | inr after ↦ get_or-with_bytes_after page write.0 write.1 k d (omega arith) (omega (arith, leb-true _ _ after))
    ] in
    get_or-written first size writes i j k d (length-with_bytes page write.0 write.1 end
    ∙ same) parts.1 parted.1 low high ∙ here

-- the bytes that no write touches stay
pub slice_range-written : (page : List ℕ) (size : ℕ) (writes : List (ℕ × List ℕ)) (i j : ℕ) → length page ≡ size
    → IsTrue (all_within size writes)
    → IsTrue (all_apart i j writes) → j ≤ size → slice_range (written page writes) i j ≡ slice_range page i j
slice_range-written page size writes i j same within apart inside =
    let now = written page writes in
    let now_same = length-written page size writes same within in
    let now_size : length (slice_range now i j) ≡ j - i = length-between now i j (omega (arith, now_same)) in
    let old_size : length (slice_range page i j) ≡ j - i = length-between page i j (omega arith) in
    same_lists (slice_range now i j) (slice_range page i j) (now_size ∙ sym old_size)
    (λ k d below.
    let high : i + k < j = omega (arith, now_size) in
    get_or-between now i j k d high ∙ get_or-written page size writes i j (i + k) d same within apart (omega arith) high
    ∙ sym (get_or-between page i j k d high))

-- the same bytes are the same number
pub num_from_bytes : (xs ys : List ℕ) (i j width : ℕ) → ((k : ℕ) → k < width
    → get_or xs (i + k) 0 ≡ get_or ys (j + k) 0)
    → num xs i width ≡ num ys j width
unfolding num
num_from_bytes xs ys i j zero same = refl
num_from_bytes xs ys i j (suc width) same =
    let before = num_from_bytes xs ys i j width (λ k below. same k (omega arith)) in
    let last = same width (omega arith) in
    rw (before, last) refl

-- a number that no write touches stays
pub num-written : (page : List ℕ) (size : ℕ) (writes : List (ℕ × List ℕ)) (at width : ℕ) → length page ≡ size
    → IsTrue (all_within size writes)
    → IsTrue (all_apart at (at + width) writes) → num (written page writes) at width ≡ num page at width
num-written page size writes at width same within apart =
    num_from_bytes (written page writes) page at at width
    (λ k below. get_or-written page size writes at (at + width) (at + k) 0 same within apart (omega arith)
    (omega arith))

-- a number in bytes that were written
pub num-with_bytes_at : (page : List ℕ) (at : ℕ) (bytes : List ℕ) (i width : ℕ) → at ≤ length page
    → i + width ≤ length bytes
    → num (with_bytes page at bytes) (at + i) width ≡ num bytes i width
num-with_bytes_at page at bytes i width inside written =
    num_from_bytes (with_bytes page at bytes) bytes (at + i) i width
    (λ k below.
    let place : at + i + k ≡ at + (i + k) = omega arith in
    rw place (get_or-with_bytes_at page at bytes (i + k) 0 inside (omega arith)))

-- two writes, the second one right behind the first
pub with_bytes-next : (page : List ℕ) (at next : ℕ) (xs ys : List ℕ) → next ≡ at + length xs
    → at + length xs ≤ length page
    → with_bytes (with_bytes page at xs) next ys ≡ with_bytes page at (xs ++ ys)
unfolding with_bytes
with_bytes-next page at next xs ys there inside =
    let front : length (take at page ++ xs) ≡ next =
    omega (arith, length-append (take at page) xs, length-take-le at page (omega arith), there) in
    let rest = drop (at + length xs) page in
    let whole = take at page ++ xs ++ rest in
    let first : take next whole ≡ take at page ++ xs = take_at (take at page ++ xs) rest next front in
    let size : at + length xs + length ys ≡ at + length (xs ++ ys) = omega (arith, length-append xs ys) in
    let last : drop (next + length ys) whole ≡ drop (at + length (xs ++ ys)) page =
    sym (drop-drop (length ys) next whole) ∙ ap (drop (length ys)) (drop_at (take at page ++ xs) rest next front)
    ∙ drop-drop (length ys) (at + length xs) page ∙ ap (λ (k : ℕ). drop k page) size in
    ap (λ (xs : List ℕ). xs ++ ys ++ drop (next + length ys) whole) first
    ∙ ap (λ (zs : List ℕ). take at page ++ xs ++ ys ++ zs) last
    ∙ ap (λ (zs : List ℕ). zs ++ drop (at + length (xs ++ ys)) page) (append_assoc (take at page) xs ys)
