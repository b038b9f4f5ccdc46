-- The used pages of an extent, by the bits of its descriptor.
use Rattle.std.proofs.Common.{◌≡◌, ℕ, zero, suc, ◌+◌, ◌-◌, ◌*◌, ◌/◌, ◌%◌, ◌^◌, ◌<◌, ◌≤◌, ◌↔◌, IsTrue, Bool, true, false}
use Rattle.std.proofs.Common.{cond, eqb, nat_lt, List, ◌∷◌, length, get_or, All, Contains, filter, refl, sym, ◌∙◌, ap}
use Rattle.std.proofs.Common.{inl, inr, arith}
use Rattle.std.specs.List.{range_with_len}
use Rattle.std.specs.Int.RustNames.{count_ones}
use Rattle.std.proofs.lemmas.List.Sums.{length-filter}
use Rattle.std.proofs.lemmas.Simd.{ones-mask_l}
use Rattle.std.proofs.lemmas.Bool.{false≢true}
use Rattle.std.proofs.lemmas.Bool.Decides.{leb_tells}
use Rattle.std.proofs.lemmas.List.Elements.{All-contains, All-contains_itself}
use Rattle.page_source.specs.Pages.{page_of}
use Rattle.space_header.specs.Header.{limit_of}
use Rattle.extent_map.specs.declared.extent.Extent.{Extent}
use Rattle.extent_map.specs.Extents.{is_bit_clear, used_mask, extent_at, extent_of, extent_count, descriptor_page}
use Rattle.extent_map.specs.Extents.{descriptor_byte, is_used, IsUsed, extent_pages, used_in, used_count, IsDescribed}
use Rattle.extent_map.specs.Descriptors.{FitsUse}
use Rattle.extent_map.specs.Laws.{BitsAreUsedPages}
use Rattle.std.proofs.Math.Nat.{pow-succ'}
use Rattle.extent_map.proofs.Masks.{bit, mask, mask_sum, mask_same, mask_is_list, mask_below, below_mask, mask_full}
use Rattle.extent_map.proofs.Masks.{mask_bit, bit_set}
use Rattle.extent_map.proofs.Used.{used_in_has, used_in_only}

-- whether page j of an extent is used
abbrev pub use_of : List ℕ → ℕ → ℕ → Bool
use_of file e j = is_bit_clear (page_of file (descriptor_page e)) (descriptor_byte e + 24) j

pub used_is_mask : (file : List ℕ) (e : ℕ) (x : Extent) → IsDescribed file e x → x.used ≡ mask (use_of file e) 64
unfolding extent_of extent_at used_mask
used_is_mask file e x is = sym (ap (λ (y : Extent). y.used) is.same) ∙ mask_sum (use_of file e) 64

pub below_test : (n k : ℕ) → n < k → nat_lt n k ≡ true
below_test n k h = elim (leb_tells (suc n) k) [ inl q ↦ q.0 | inr q ↦ absurd (omega (arith, h, q.1)) ]

pub used_is_bit : (file : List ℕ) (e j : ℕ) → e < extent_count file → j < 64
    → is_used file (64 * e + j) ≡ use_of file e j
unfolding is_used
used_is_bit file e j below inside =
    let extent : (64 * e + j) / 64 ≡ e = omega arith in
    let place : (64 * e + j) % 64 ≡ j = omega arith in
    let limit : 64 * e + j < limit_of file = omega arith in
    rw (below_test (64 * e + j) (limit_of file) limit, extent, place) refl

-- a test by its bit
bit_test : (b : Bool) (n : ℕ) → n ≡ bit b → b ≡ eqb n 1
bit_test true n is = sym (ap (λ (k : ℕ). eqb k 1) is)
bit_test false n is = sym (ap (λ (k : ℕ). eqb k 1) is)

pub bits_are_used : BitsAreUsedPages
bits_are_used file e j below inside =
    let x = extent_of file e in
    let number : x.used ≡ mask (use_of file e) 64 = used_is_mask file e x record { same = refl; below = below } in
    used_is_bit file e j below inside
    ∙ bit_test (use_of file e j) (x.used / 2 ^ j % 2)
    (ap (λ (n : ℕ). n / 2 ^ j % 2) number ∙ mask_bit (use_of file e) 64 j inside)

-- the pages of an extent that pass a test, counted
none_pass : (q : ℕ → Bool) (a n : ℕ) → ((j : ℕ) → j < n → q (a + j) ≡ false)
    → length (filter q (range_with_len a n)) ≡ 0
none_pass q a zero none = refl
none_pass q a (suc n) none =
    let first : q a ≡ false = ap q (omega arith) ∙ none 0 (omega arith) in
    rw first (none_pass q (a + 1) n (λ j h. ap q (omega arith) ∙ none (suc j) (omega arith)))

all_pass : (q : ℕ → Bool) (a n : ℕ) → ((j : ℕ) → j < n → q (a + j) ≡ true) → length (filter q (range_with_len a n)) ≡ n
all_pass q a zero all = refl
all_pass q a (suc n) all =
    let first : q a ≡ true = ap q (omega arith) ∙ all 0 (omega arith) in
    rw first (ap suc (all_pass q (a + 1) n (λ j h. ap q (omega arith) ∙ all (suc j) (omega arith))))

at_most : (q : ℕ → Bool) (a n : ℕ) → length (filter q (range_with_len a n)) ≤ n
at_most q a zero = omega arith
at_most q a (suc n) =
    let rest : length (filter q (range_with_len (a + 1) n)) ≤ n = at_most q (a + 1) n in
    elim (q a) as (λ b. length (cond b (a ∷ filter q (range_with_len (a + 1) n)) (filter q (range_with_len
    (a + 1) n))) ≤ suc n) [
      | true ↦ omega (arith, rest)
      | false ↦ omega (arith, rest)
    ]

one_fails : (q : ℕ → Bool) (a n j : ℕ) → j < n → q (a + j) ≡ false → length (filter q (range_with_len a n)) < n
one_fails q a zero j inside fails = absurd (omega arith)
one_fails q a (suc n) zero inside fails =
    let first : q a ≡ false = ap q (omega arith) ∙ fails in
    let few : length (filter q (range_with_len (a + 1) n)) ≤ n = at_most q (a + 1) n in
    rw first (omega (arith, few))
one_fails q a (suc n) (suc j) inside fails =
    let rest : length (filter q (range_with_len (a + 1) n)) < n =
    one_fails q (a + 1) n j (omega arith) (ap q (omega arith) ∙ fails) in
    elim (q a) as (λ b. length (cond b (a ∷ filter q (range_with_len (a + 1) n)) (filter q (range_with_len
    (a + 1) n))) < suc n) [
      | true ↦ omega (arith, rest)
      | false ↦ omega (arith, rest)
    ]

-- what the number of an extent's used pages says of their bits
pub record Counts (file : List ℕ) (e : ℕ) (x : Extent) : Type 0 where
  pub none : x.used ≡ 0 → used_count file e ≡ 0
  pub some : ¬ (x.used ≡ 0) → 0 < used_count file e
  pub full : x.used ≡ 2 ^ 64 - 1 → used_count file e ≡ 64
  pub room : ¬ (x.used ≡ 2 ^ 64 - 1) → used_count file e < 64

-- a number that isn't 0 has a bit, and one that isn't full lacks one
pub some_bit : (p : ℕ → Bool) (n : ℕ) → ¬ (mask p n ≡ 0) → (j : ℕ) × (j < n) × (p j ≡ true)
unfolding mask
some_bit p zero some = absurd (some refl)
some_bit p (suc n) some =
    elim (p 0) as (λ b. p 0 ≡ b → (j : ℕ) × (j < suc n) × (p j ≡ true)) [
      | true ↦ λ is. (0, omega arith, is)
      | false ↦ λ is.
          let r = some_bit (λ j. p (suc j)) n (λ none. some (rw (is, none) refl)) in
          (suc r.0, omega (arith, r.1), r.2)
    ] refl

pub lacks_bit : (p : ℕ → Bool) (n : ℕ) → ¬ (mask p n + 1 ≡ 2 ^ n) → (j : ℕ) × (j < n) × (p j ≡ false)
unfolding mask
lacks_bit p zero lacks = absurd (lacks refl)
lacks_bit p (suc n) lacks =
    elim (p 0) as (λ b. p 0 ≡ b → (j : ℕ) × (j < suc n) × (p j ≡ false)) [
      | false ↦ λ is. (0, omega arith, is)
      | true ↦ λ is.
          let power : 2 ^ suc n ≡ 2 * 2 ^ n = pow-succ' 2 n in
          let first : bit (p 0) ≡ 1 = ap bit is in
          let r = lacks_bit (λ j. p (suc j)) n (λ full. lacks (omega (arith, power, first, full))) in
          (suc r.0, omega (arith, r.1), r.2)
    ] refl

one_passes : (q : ℕ → Bool) (a n j : ℕ) → j < n → q (a + j) ≡ true → 0 < length (filter q (range_with_len a n))
one_passes q a zero j inside passes = absurd (omega arith)
one_passes q a (suc n) zero inside passes =
    let first : q a ≡ true = ap q (omega arith) ∙ passes in
    rw first (omega arith)
one_passes q a (suc n) (suc j) inside passes =
    let rest : 0 < length (filter q (range_with_len (a + 1) n)) =
    one_passes q (a + 1) n j (omega arith) (ap q (omega arith) ∙ passes) in
    elim (q a) as (λ b. 0 < length (cond b (a ∷ filter q (range_with_len (a + 1) n)) (filter q (range_with_len
    (a + 1) n)))) [
      | true ↦ omega arith
      | false ↦ rest
    ]

pub counts : (file : List ℕ) (e : ℕ) (x : Extent) → IsDescribed file e x → Counts file e x
unfolding used_in extent_pages
counts file e x is =
    let here = use_of file e in
    let number : x.used ≡ mask here 64 = used_is_mask file e x is in
    let page : (j : ℕ) → j < 64 → is_used file (64 * e + j) ≡ here j = λ j h. used_is_bit file e j is.below h in
    record {
      none = λ none. none_pass (is_used file) (64 * e) 64
          (λ j h. page j h ∙ mask_below here 64 0 (omega (arith, number, none)) j (omega arith) h);
      some = λ some.
          let r = some_bit here 64 (λ none. some (number ∙ none)) in
          one_passes (is_used file) (64 * e) 64 r.0 r.1 (page r.0 r.1 ∙ r.2);
      full = λ full. all_pass (is_used file) (64 * e) 64
          (λ j h. page j h ∙ mask_full here 64 (omega (arith, number, full)) j h);
      room = λ room.
          let r = lacks_bit here 64 (λ full. room (omega (arith, number, full))) in
          one_fails (is_used file) (64 * e) 64 r.0 r.1 (page r.0 r.1 ∙ r.2);
    }

-- the used pages are below a size exactly where the number has no bit from there on
pub within_from : (file : List ℕ) (e size : ℕ) (x : Extent) → IsDescribed file e x → x.used < 2 ^ (size - 64 * e)
    → All (λ n. n < size) (used_in file e)
within_from file e size x is small k d inside =
    let n = get_or (used_in file e) k d in
    let r = used_in_only file e n (All-contains_itself (used_in file e) k d inside) in
    elim (leb_tells (suc n) size) [
      | inl q ↦ q.1
      | inr q ↦
          let j = n - 64 * e in
          let there : 64 * e + j ≡ n = omega (arith, r.0) in
          let clear : use_of file e j ≡ false =
          mask_below (use_of file e) 64 (size - 64 * e) (omega (arith, small, used_is_mask file e x is)) j (omega
          (arith, q.1, r.0)) (omega (arith, r.0)) in
          absurd (false≢true (sym clear ∙ sym (used_is_bit file e j is.below (omega (arith, r.0)))
          ∙ ap (is_used file) there ∙ r.1))
    ]

pub from_within : (file : List ℕ) (e size : ℕ) (x : Extent) → IsDescribed file e x
    → All (λ n. n < size) (used_in file e)
    → x.used < 2 ^ (size - 64 * e)
from_within file e size x is within =
    let here = use_of file e in
    let none : (j : ℕ) → size - 64 * e ≤ j → j < 64 → here j ≡ false = λ j from inside.
    elim (here j) as (λ b. here j ≡ b → here j ≡ false) [
      | true ↦ λ set.
          let n = 64 * e + j in
          let extent : n / 64 ≡ e = omega arith in
          let used : IsUsed file n = used_is_bit file e j is.below inside ∙ set in
          let there : Contains (used_in file e) n = rw extent at (used_in_has file n used) in
          absurd (omega (arith, from, All-contains (λ n. n < size) (used_in file e) n within there))
      | false ↦ λ clear. clear
    ] refl in
    omega (arith, used_is_mask file e x is, below_mask here 64 (size - 64 * e) none)

-- the state of an extent, and what goes with it
pub free_fits : (state count : ℕ) (r : Bool) → state ≡ 1 → (IsTrue r → count ≡ 0) → (count ≡ 0 → IsTrue r)
    → IsTrue r ↔ FitsUse state count
free_fits state count r is to from = (
  λ t. record {
    free = λ _. to t;
    some_used = λ q. absurd (omega (arith, is, q));
    some_free =
        λ q. absurd (omega (arith, is, q));
    full = λ q. absurd (omega (arith, is, q));
  },
  λ f. from (f.free is),
)

pub some_fits : (state count : ℕ) (r : Bool) → state ≡ 2 → (IsTrue r → (0 < count) × (count < 64)) → (0 < count
    → count < 64 → IsTrue r)
    → IsTrue r ↔ FitsUse state count
some_fits state count r is to from = (
  λ t. record {
    free = λ q. absurd (omega (arith, is, q));
    some_used = λ _. (to t).0;
    some_free =
        λ _. (to t).1;
    full = λ q. absurd (omega (arith, is, q));
  },
  λ f. from (f.some_used is) (f.some_free is),
)

pub full_fits : (state count : ℕ) (r : Bool) → state ≡ 3 → (IsTrue r → count ≡ 64) → (count ≡ 64 → IsTrue r)
    → IsTrue r ↔ FitsUse state count
full_fits state count r is to from = (
  λ t. record {
    free = λ q. absurd (omega (arith, is, q));
    some_used =
        λ q. absurd (omega (arith, is, q));
    some_free = λ q. absurd (omega (arith, is, q));
    full = λ _. to t;
  },
  λ f. from (f.full is),
)

-- the first two pages of an extent
pub first_two : (file : List ℕ) (e : ℕ) (x : Extent) → IsDescribed file e x
    → ((x.used % 4 ≡ 3) → IsUsed file (64 * e) × IsUsed file (64 * e + 1)) × (IsUsed file (64 * e)
    → IsUsed file (64 * e + 1) → x.used % 4 ≡ 3)
first_two file e x is =
    let here = use_of file e in
    let number : x.used ≡ mask here 64 = used_is_mask file e x is in
    let low : mask here 64 / 2 ^ 0 % 2 ≡ bit (here 0) = mask_bit here 64 0 (omega arith) in
    let next : mask here 64 / 2 ^ 1 % 2 ≡ bit (here 1) = mask_bit here 64 1 (omega arith) in
    let first : is_used file (64 * e) ≡ here 0 = ap (is_used file) (omega arith)
    ∙ used_is_bit file e 0 is.below (omega arith) in
    let second : is_used file (64 * e + 1) ≡ here 1 = used_is_bit file e 1 is.below (omega arith) in (
      λ three. (
        first ∙ bit_set (here 0) (omega (arith, number, low, three)),
        second
            ∙ bit_set (here 1) (omega (arith, number, next, three)),
      ),
      λ p q.
          let one : bit (here 0) ≡ 1 = ap bit (sym first ∙ p) in
          let two : bit (here 1) ≡ 1 = ap bit (sym second ∙ q) in
          omega (arith, number, low, next, one, two),
    )

-- as many bits are set as pages are used
pub ones_are_uses : (file : List ℕ) (e : ℕ) (x : Extent) → IsDescribed file e x → count_ones x.used ≡ used_count file e
unfolding used_in extent_pages
ones_are_uses file e x is =
    let at = λ (j : ℕ). is_used file (64 * e + j) in
    ap count_ones (used_is_mask file e x is
    ∙ (mask_same (use_of file e) at 64 (λ j inside. sym (used_is_bit file e j is.below inside))
    ∙ mask_is_list (is_used file) (64 * e) 64))
    ∙ (ones-mask_l (is_used file) (range_with_len (64 * e) 64)
    ∙ sym (length-filter (is_used file) (range_with_len (64 * e) 64)))
