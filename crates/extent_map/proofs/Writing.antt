-- The bitmap that is written says which pages are used, and a descriptor that was written is read again.
use Rattle.std.proofs.Common.{◌≡◌, ℕ, zero, suc, ◌+◌, ◌-◌, ◌*◌, ◌/◌, ◌%◌, ◌^◌, ◌<◌, ◌≤◌, eqb, List, ◌++◌, length, map}
use Rattle.std.proofs.Common.{get_or, refl, sym, ◌∙◌, ap, add-zero, arith}
use Rattle.std.specs.List.{range_with_len}
use Rattle.std.proofs.lemmas.Nat.{pow-add}
use Rattle.std.proofs.Math.Nat.{div-div-eq-div-mul, pow-succ'}
use Rattle.std.proofs.lemmas.List.FromFn.{length-map-range_with_len, get_or-map-range_with_len}
use Rattle.page_source.specs.Pages.{num, be_bytes, with_bytes}
use Rattle.page_source.proofs.Written.{get_or-with_bytes_before, get_or-with_bytes_at, num_from_bytes, with_bytes-next}
use Rattle.page_source.proofs.Written.{length-with_bytes}
use Rattle.page_source.proofs.Numbers.{num-with_bytes}
use Rattle.space_header.specs.declared.address.Node.{Node}
use Rattle.space_header.specs.Header.{address_at, node_at}
use Rattle.space_header.specs.Writing.{node_bytes, address_bytes}
use Rattle.extent_map.specs.declared.extent.Extent.{Extent}
use Rattle.extent_map.specs.Extents.{is_bit_clear, used_mask, extent_at}
use Rattle.space_header.specs.Laws.{WrittenFieldsAreRead}
use Rattle.extent_map.specs.Writing.{bitmap_byte, bitmap_bytes, extent_bytes}
use Rattle.extent_map.specs.Laws.{WrittenExtentsAreRead}
use Rattle.extent_map.proofs.Masks.{bit, mask, mask_same, mask_sum}

-- a part of a quotient by a power of 2
further : (n a k w : ℕ) → 2 ^ k ≡ w → n / 2 ^ (a + k) ≡ n / 2 ^ a / w
further n a k w power = ap (λ (v : ℕ). n / v) (pow-add 2 a k) ∙ sym (div-div-eq-div-mul n (2 ^ a) (2 ^ k))
    ∙ ap (λ (v : ℕ). n / 2 ^ a / v) power

-- a byte of four bits that are set where they are 0 in four numbers
four_bits : (x a b c d : ℕ) → a ≡ x → b ≡ x / 2 → c ≡ x / 4 → d ≡ x / 8
    → 255 - (x % 16 % 2 + x % 16 / 2 % 2 * 4 + x % 16 / 4 % 2 * 16 + x % 16 / 8 * 64)
    ≡ 0 + (3 - a % 2) * 1 + (3 - b % 2) * 4 + (3 - c % 2) * 16 + (3 - d % 2) * 64
four_bits x a b c d p q r s = omega (arith, p, q, r, s)

-- the byte of four pages, by the number that has their bits lowest
pub byte_made : (used i : ℕ) → (let x = used / 2 ^ (4 * i) in 255 - (x % 16 % 2 + x % 16 / 2 % 2 * 4
    + x % 16 / 4 % 2 * 16 + x % 16 / 8 * 64)) ≡ bitmap_byte used i
unfolding bitmap_byte
byte_made used i =
    four_bits (used / 2 ^ (4 * i)) _ _ _ _ (ap (λ (a : ℕ). used / 2 ^ a) (add-zero (4 * i)))
    (further used (4 * i) 1 2 refl) (further used (4 * i) 2 4 refl)
    (further used (4 * i) 3 8 refl)

-- a bit of such a byte
first_bit : (x b c d : ℕ) → (0 + (3 - x % 2) * 1 + (3 - b % 2) * 4 + (3 - c % 2) * 16 +
    (3 - d % 2) * 64) / 1 % 2 ≡ 1 - x % 2
first_bit x b c d = omega arith

second_bit : (x b c d : ℕ) → (0 + (3 - x % 2) * 1 + (3 - b % 2) * 4 + (3 - c % 2) * 16 +
    (3 - d % 2) * 64) / 4 % 2 ≡ 1 - b % 2
second_bit x b c d = omega arith

third_bit : (x b c d : ℕ) → (0 + (3 - x % 2) * 1 + (3 - b % 2) * 4 + (3 - c % 2) * 16 +
    (3 - d % 2) * 64) / 16 % 2 ≡ 1 - c % 2
third_bit x b c d = omega arith

fourth_bit : (x b c d : ℕ) → (0 + (3 - x % 2) * 1 + (3 - b % 2) * 4 + (3 - c % 2) * 16 +
    (3 - d % 2) * 64) / 64 % 2 ≡ 1 - d % 2
fourth_bit x b c d = omega arith

-- the first of the two bits of a page is clear where it is used
bit_of_byte : (used i k : ℕ) → k < 4 → bitmap_byte used i / 2 ^ (2 * k) % 2 ≡ 1 - used / 2 ^ (4 * i + k) % 2
unfolding bitmap_byte
bit_of_byte used i zero small =
    first_bit (used / 2 ^ (4 * i + 0)) (used / 2 ^ (4 * i + 1)) (used / 2 ^ (4 * i + 2)) (used / 2 ^ (4 * i + 3))
bit_of_byte used i (suc zero) small =
    second_bit (used / 2 ^ (4 * i + 0)) (used / 2 ^ (4 * i + 1)) (used / 2 ^ (4 * i + 2)) (used / 2 ^ (4 * i + 3))
bit_of_byte used i (suc (suc zero)) small =
    third_bit (used / 2 ^ (4 * i + 0)) (used / 2 ^ (4 * i + 1)) (used / 2 ^ (4 * i + 2)) (used / 2 ^ (4 * i + 3))
bit_of_byte used i (suc (suc (suc zero))) small =
    fourth_bit (used / 2 ^ (4 * i + 0)) (used / 2 ^ (4 * i + 1)) (used / 2 ^ (4 * i + 2)) (used / 2 ^ (4 * i + 3))
bit_of_byte used i (suc (suc (suc (suc k)))) small = absurd (omega arith)

turned : (v b : ℕ) → b < 2 → v ≡ 1 - b → eqb v 0 ≡ eqb b 1
turned v zero small is = ap (λ (n : ℕ). eqb n 0) is
turned v (suc zero) small is = ap (λ (n : ℕ). eqb n 0) is
turned v (suc (suc b)) small is = absurd (omega arith)

-- the number that has the bits of a number
bit_tells : (b : ℕ) → b < 2 → bit (eqb b 1) ≡ b
bit_tells zero small = refl
bit_tells (suc zero) small = refl
bit_tells (suc (suc b)) small = absurd (omega arith)

mask_of_bits : (n x : ℕ) → x < 2 ^ n → mask (λ j. eqb (x / 2 ^ j % 2) 1) n ≡ x
unfolding mask
mask_of_bits zero x fits = omega (arith, fits)
mask_of_bits (suc n) x fits =
    let half = λ (j : ℕ). ap (λ (w : ℕ). x / w) (pow-succ' 2 j) ∙ sym (div-div-eq-div-mul x 2 (2 ^ j)) in
    let rest : mask (λ j. eqb (x / 2 ^ suc j % 2) 1) n ≡ x / 2 =
    mask_same (λ j. eqb (x / 2 ^ suc j % 2) 1) (λ j. eqb (x / 2 / 2 ^ j % 2) 1) n
    (λ j _. ap (λ (q : ℕ). eqb (q % 2) 1) (half j)) ∙ mask_of_bits n (x / 2) (omega (arith, fits, pow-succ' 2 n)) in
    let first : bit (eqb (x / 1 % 2) 1) ≡ x % 2 = bit_tells (x / 1 % 2) (omega arith) ∙ omega arith in
    omega (arith, rest, first)

-- the bitmap that was written
used_read : (page : List ℕ) (at used : ℕ) → at + 16 ≤ length page → used < 2 ^ 64
    → used_mask (with_bytes page at (bitmap_bytes used)) at ≡ used
unfolding used_mask bitmap_bytes
used_read page at used inside fits =
    let bytes = map (bitmap_byte used) (range_with_len 0 16) in
    let now = with_bytes page at bytes in
    let size : length bytes ≡ 16 = length-map-range_with_len (bitmap_byte used) 0 16 in
    mask_sum (is_bit_clear now at) 64
    ∙ mask_same (is_bit_clear now at) (λ j. eqb (used / 2 ^ j % 2) 1) 64
    (λ j small.
    let byte : get_or now (at + j / 4) 0 ≡ bitmap_byte used (j / 4) =
    get_or-with_bytes_at page at bytes (j / 4) 0 (omega arith) (omega (arith, size))
    ∙ get_or-map-range_with_len (bitmap_byte used) 0 16 (j / 4) (j / 4) 0 (omega arith) (omega arith) in
    let place : 4 * (j / 4) + j % 4 ≡ j = omega arith in
    turned (get_or now (at + j / 4) 0 / 2 ^ (2 * (j % 4)) % 2) (used / 2 ^ j % 2) (omega arith)
    (ap (λ (b : ℕ). b / 2 ^ (2 * (j % 4)) % 2) byte ∙ bit_of_byte used (j / 4) (j % 4) (omega arith)
    ∙ ap (λ (k : ℕ). 1 - used / 2 ^ k % 2) place))
    ∙ mask_of_bits 64 used fits

-- a number, an address and a node before a write
num_before : (page : List ℕ) (at : ℕ) (bytes : List ℕ) (i width : ℕ) → at ≤ length page → i + width ≤ at
    → num (with_bytes page at bytes) i width ≡ num page i width
num_before page at bytes i width inside before =
    num_from_bytes (with_bytes page at bytes) page i i width
    (λ k below. get_or-with_bytes_before page at bytes (i + k) 0 inside (omega arith))

node_before : (page : List ℕ) (at : ℕ) (bytes : List ℕ) (i : ℕ) → at ≤ length page → i + 12 ≤ at
    → node_at (with_bytes page at bytes) i ≡ node_at page i
unfolding node_at address_at
node_before page at bytes i inside before =
    rw (
      num_before page at bytes i 4 inside (omega arith),
      num_before page at bytes (i + 4) 2 inside (omega arith),
      num_before page at bytes (i + 6) 4 inside (omega arith),
      num_before page at bytes (i + 6 + 4) 2 inside (omega arith),
    )
    refl

same_extent : (a b : Extent) → a.id ≡ b.id → a.node ≡ b.node → a.state ≡ b.state → a.used ≡ b.used → a ≡ b
same_extent a b id node state used =
    let made : ℕ → Node → ℕ → ℕ → Extent = λ i n s u. record { id = i; node = n; state = s; used = u } in
    ap (λ i. made i a.node a.state a.used) id ∙ ap (λ n. made b.id n a.state a.used) node
    ∙ ap (λ s. made b.id b.node s a.used) state ∙ ap (made b.id b.node b.state) used

pub node_size : (node : Node) → length (node_bytes node) ≡ 12
unfolding node_bytes address_bytes
node_size node = refl

-- a descriptor whose fields were written one behind the other
abbrev pub with_fields : List ℕ → ℕ → Extent → List ℕ
with_fields page at x =
    with_bytes (with_bytes (with_bytes page (at + 8) (node_bytes x.node)) (at + 20) (be_bytes 4 x.state)) (at + 24)
    (bitmap_bytes x.used)

pub extent_written : (page : List ℕ) (at : ℕ) (x : Extent) → at + 40 ≤ length page
    → with_fields (with_bytes page at (be_bytes 8 x.id)) at x ≡ with_bytes page at (extent_bytes x)
unfolding extent_bytes node_bytes address_bytes
extent_written page at x inside =
    let id = be_bytes 8 x.id in
    let node = node_bytes x.node in
    let state = be_bytes 4 x.state in
    ap (λ (now : List ℕ). with_bytes (with_bytes now (at + 20) state) (at + 24) (bitmap_bytes x.used))
    (with_bytes-next page at (at + 8) id node refl (omega arith))
    ∙ ap (λ (now : List ℕ). with_bytes now (at + 24) (bitmap_bytes x.used))
    (with_bytes-next page at (at + 20) (id ++ node) state refl (omega arith))
    ∙ with_bytes-next page at (at + 24) (id ++ node ++ state) (bitmap_bytes x.used) refl (omega arith)

pub extent_read : (page : List ℕ) (at : ℕ) (x : Extent) → at + 40 ≤ length page → x.used < 2 ^ 64
    → num page at 8 ≡ x.id → node_at (with_bytes page (at + 8) (node_bytes x.node)) (at + 8) ≡ x.node
    → num (with_bytes (with_bytes page (at + 8) (node_bytes x.node)) (at + 20) (be_bytes 4 x.state))
    (at + 20) 4 ≡ x.state
    → extent_at (with_fields page at x) at ≡ x
unfolding extent_at
extent_read page at x inside fits id node state =
    let one = with_bytes page (at + 8) (node_bytes x.node) in
    let two = with_bytes one (at + 20) (be_bytes 4 x.state) in
    let one_size : length one ≡ length page = length-with_bytes page (at + 8) (node_bytes x.node) (omega
    (arith, node_size x.node)) in
    let two_size : length two ≡ length page = length-with_bytes one (at + 20) (be_bytes 4 x.state) (omega
    (arith, one_size)) ∙ one_size in
    let last = bitmap_bytes x.used in
    same_extent (extent_at (with_fields page at x) at) x
    (num_before two (at + 24) last at 8 (omega (arith, two_size)) (omega arith)
    ∙ num_before one (at + 20) (be_bytes 4 x.state) at 8 (omega (arith, one_size)) (omega arith)
    ∙ num_before page (at + 8) (node_bytes x.node) at 8 (omega arith) (omega arith) ∙ id)
    (node_before two (at + 24) last (at + 8) (omega (arith, two_size)) (omega arith)
    ∙ node_before one (at + 20) (be_bytes 4 x.state) (at + 8) (omega (arith, one_size)) (omega arith) ∙ node)
    (num_before two (at + 24) last (at + 20) 4 (omega (arith, two_size)) (omega arith) ∙ state)
    (used_read two (at + 24) x.used (omega (arith, two_size)) fits)

pub extent_back : WrittenFieldsAreRead → WrittenExtentsAreRead
extent_back fields page at x inside fits =
    let first = with_bytes page at (be_bytes 8 x.id) in
    let first_size : length first ≡ length page = length-with_bytes page at (be_bytes 8 x.id) (omega arith) in
    let second = with_bytes first (at + 8) (node_bytes x.node) in
    let second_size : length second ≡ length first =
    length-with_bytes first (at + 8) (node_bytes x.node) (omega (arith, node_size x.node, first_size)) in
    ap (λ (p : List ℕ). extent_at p at) (sym (extent_written page at x inside))
    ∙ extent_read first at x (omega (arith, first_size)) fits.used
    (num-with_bytes page at 8 x.id (omega arith) fits.id)
    (fields.node first (at + 8) x.node (omega (arith, first_size)) fits.node)
    (num-with_bytes second (at + 20) 4 x.state (omega (arith, first_size, second_size)) fits.state)
